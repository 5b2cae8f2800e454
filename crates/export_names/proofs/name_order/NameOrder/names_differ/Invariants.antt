use Rattle.std.proofs.Common.{[], ◌≡◌, ◌+◌, ◌<◌, ℕ, false, get_or}
use Rattle.export_names.specs.Order.{names_at}
use Rattle.export_names.proofs.Sorting.{alike}
use Rattle.export_names.proofs.name_order.NameOrder.names_differ.Given as goal

abbrev pub invariant-loop-place : goal.invariant-loop-place
invariant-loop-place l = (k : ℕ) → k + 1 < l.place → alike (get_or (names_at l.exports l.self) k []) (get_or (names_at l.exports l.self) (k + 1) []) ≡ false
