use Rattle.std.proofs.Common.{refl, arith}
use Rattle.core_types.specs.declared.types.ValType.{ValType}
use Rattle.core_types.specs.declared.types.ValType.TheVariants.{I32, I64, FuncRef, ExternRef}
use Rattle.meaning.specs.execution.Values.{default_of}
use Rattle.meaning.specs.soundness.Values.{ValueHasType}
use Rattle.meaning.specs.execution.Store.{Store}
use Rattle.meaning.proofs.soundness.first_values_have_their_types.Goals as goal

typed : (store : Store) (t : ValType) → ValueHasType store (default_of t) t
typed store I32 = (refl, omega arith)
typed store I64 = (refl, omega arith)
typed store FuncRef = (refl, tt)
typed store ExternRef = (refl, tt)

pub returns : goal.returns
returns c = typed
