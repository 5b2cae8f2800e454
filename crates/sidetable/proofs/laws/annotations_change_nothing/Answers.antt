use Rattle.sidetable.proofs.Annotations.{same-effect}
use Rattle.sidetable.proofs.laws.annotations_change_nothing.Goals as goal

pub returns : goal.returns
returns c = same-effect
