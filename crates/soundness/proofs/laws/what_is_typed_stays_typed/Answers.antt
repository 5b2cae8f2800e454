use Rattle.soundness.proofs.Effects.{Extends-same}
use Rattle.soundness.proofs.Extension.{configuration-extended}
use Rattle.soundness.proofs.Runs.{Extends-through}
use Rattle.soundness.proofs.laws.what_is_typed_stays_typed.Goals as goal

pub returns : goal.returns
returns c = record {
  same = Extends-same;
  through = Extends-through;
  typed = λ old new place c results valid more typed. configuration-extended old new valid more place c results typed;
}
