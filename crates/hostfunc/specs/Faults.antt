-- How a call of a host function ends, in the terms of the definitions.
use Rattle.std.specs.Prelude.{Result, Ok, Err}
use Rattle.std.specs.Global.{Global}
use Rattle.std.specs.declared.vec.Vec.{Vec}
use Rattle.core_types.specs.declared.outcome.Val.{Val}
use Rattle.meaning.specs.execution.Runs.{Answer, HostTrap, Results}
use Rattle.hostfunc.specs.declared.host_function.HostFault.{HostFault}
use Rattle.hostfunc.specs.declared.host_function.HostFault.TheVariants.{Trap, Memory}

-- If the call returned results or trapped, this holds for that answer.
abbrev pub IfAnswered : Result (Vec Val Global) HostFault → (Answer → Type 0) → Type 0
IfAnswered (Ok values) holds = holds (Results values.items)
IfAnswered (Err (Trap code)) holds = holds (HostTrap code)
IfAnswered (Err Memory) holds = Unit {0}
