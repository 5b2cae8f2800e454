use Rattle.serde_json.specs.View.{view}
use Rattle.serde_json.specs.declared.value.Value.{Value}
use Rattle.meaning.proofs.lemmas.Lists.{SoFar}
use Rattle.scripts.specs.Reading.{value_of}
use Rattle.scripts.proofs.values.read_values.Given as goal

abbrev pub invariant-loop-k : goal.invariant-loop-k
invariant-loop-k l = SoFar (λ (v : Value). value_of (view v)) l.items l.k l.values.items
