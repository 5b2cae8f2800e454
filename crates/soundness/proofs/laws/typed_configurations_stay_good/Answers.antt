use Rattle.soundness.proofs.Steps.{stays-good}
use Rattle.soundness.proofs.laws.typed_configurations_stay_good.Goals as goal

pub returns : goal.returns
returns c = stays-good
