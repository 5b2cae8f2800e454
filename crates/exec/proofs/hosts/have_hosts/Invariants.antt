use Rattle.std.proofs.Common.{◌≡◌, ℕ, ◌<◌}
use Rattle.std.specs.Prelude.{Some, slice_get}
use Rattle.meaning.specs.execution.Store.{FunctionInstance, InHost}
use Rattle.hostfunc.specs.Boxes.{IsHost}
use Rattle.hostfunc.specs.Tables.{hosts_in}
use Rattle.store.specs.Contents.{functions_in}
use Rattle.exec.proofs.hosts.have_hosts.Given as goal

-- Each function before this address has an object of its type.
abbrev pub invariant-loop-address : goal.invariant-loop-address
invariant-loop-address g l =
    (a number : ℕ) (f : FunctionInstance) → a < l.address → slice_get (functions_in l.code) a ≡ Some f → f.implementation ≡ InHost number → IsHost (hosts_in l.hosts) number f.ty
