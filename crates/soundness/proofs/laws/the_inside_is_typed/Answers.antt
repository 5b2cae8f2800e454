use Rattle.soundness.proofs.Insides.{inside-typed}
use Rattle.soundness.proofs.laws.the_inside_is_typed.Goals as goal

pub returns : goal.returns
returns c = inside-typed
