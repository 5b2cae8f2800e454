use Rattle.std.proofs.Common.{refl}
use Rattle.meaning.specs.embedding.Machine.{none, then_on}
use Rattle.meaning.proofs.embedding.fresh_embeddings_are_empty.Goals as goal

pub returns : goal.returns
returns c = record {
  refused = then_on (refl, refl) (then_on (refl, refl) (then_on (refl, refl) (then_on (refl, refl) (then_on (refl, refl) none))));
}
