use Rattle.soundness.specs.Embedding.{NeverAnswers, own_type}
use Rattle.soundness.proofs.Creation.{fresh-sound}
use Rattle.soundness.proofs.Embedding.{commands-go-well}
use Rattle.soundness.proofs.laws.commands_go_well.Goals as goal

pub returns : goal.returns
returns c = record {
  fresh = fresh-sound own_type;
  run = commands-go-well c.writing_is_read.ensures.whole own_type NeverAnswers;
}
