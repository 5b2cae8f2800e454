use Rattle.std.proofs.Common.{◌+◌, ◌-◌, ◌*◌, ◌^◌, length}
use Rattle.exec.specs.Resting.{at_rest, left_of}
use Rattle.exec.proofs.Going.{Came}
use Rattle.exec.proofs.calls.go_on.Given as goal

abbrev pub invariant-loop-state : goal.invariant-loop-state
invariant-loop-state l = Came l.bound (at_rest l.code l.initial.state l.initial.call) (at_rest l.code l.state l.call)

abbrev pub decreases-loop-state : goal.decreases-loop-state
decreases-loop-state l = 2 ^ 64 * left_of (at_rest l.code l.state l.call) + (2 ^ 64 - length l.call.cells.items)
