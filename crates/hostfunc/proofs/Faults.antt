-- The answers of calls of host functions.
use Rattle.std.proofs.Common.{◌≡◌, IfOk, List, Result, Ok, Err, map}
use Rattle.std.specs.Global.{Global}
use Rattle.std.specs.List.{All}
use Rattle.std.specs.declared.vec.Vec.{Vec}
use Rattle.core_types.specs.declared.outcome.Val.{Val}
use Rattle.core_types.specs.declared.types.ValType.{ValType}
use Rattle.meaning.specs.execution.Hosts.{AnswersWith}
use Rattle.meaning.specs.execution.Runs.{Answer}
use Rattle.meaning.specs.execution.Values.{FitsWidth, type_of}
use Rattle.hostfunc.specs.Faults.{IfAnswered}
use Rattle.hostfunc.specs.declared.host_function.HostFault.{HostFault}
use Rattle.hostfunc.specs.declared.host_function.HostFault.TheVariants.{Trap, Memory}

-- A property of an answer can be replaced with a weaker one.
pub IfAnswered-weaker : (result : Result (Vec Val Global) HostFault) (P Q : Answer → Type 0) → ((answer : Answer) → P answer → Q answer)
    → IfAnswered result P → IfAnswered result Q
IfAnswered-weaker (Ok values) P Q weaker held = weaker _ held
IfAnswered-weaker (Err (Trap code)) P Q weaker held = weaker _ held
IfAnswered-weaker (Err Memory) P Q weaker held = tt

-- Answers are of the types of their results.
pub IfAnswered-typed : (result : Result (Vec Val Global) HostFault) (types : List ValType) (P Q : Answer → Type 0)
    → ((answer : Answer) → P answer → AnswersWith answer types → Q answer)
    → IfOk result (λ values. (map type_of values.items ≡ types) × All FitsWidth values.items) → IfAnswered result P → IfAnswered result Q
IfAnswered-typed (Ok values) types P Q both typed held = both _ held typed
IfAnswered-typed (Err (Trap code)) types P Q both typed held = both _ held tt
IfAnswered-typed (Err Memory) types P Q both typed held = tt
