-- How a call of a print function ends.
use Rattle.std.specs.Prelude.{◌≡◌, []}
use Rattle.meaning.specs.execution.Runs.{Answer, Results, HostTrap}

-- It returns no results, or traps because a write failed.
abbrev pub IsPrinted : Answer → Type 0
IsPrinted (Results values) = values ≡ []
IsPrinted (HostTrap code) = code ≡ 1
