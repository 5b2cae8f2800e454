use Rattle.soundness.proofs.Allocation.{context-has-module-types}
use Rattle.soundness.proofs.laws.contexts_have_the_types_of_their_modules.Goals as goal

pub returns : goal.returns
returns c = context-has-module-types
