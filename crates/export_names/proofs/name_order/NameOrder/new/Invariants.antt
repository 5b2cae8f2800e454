use Rattle.std.proofs.Common.{◌≡◌, take}
use Rattle.export_names.specs.Order.{indices_of}
use Rattle.export_names.proofs.name_order.NameOrder.new.Given as goal

abbrev pub invariant-loop-index : goal.invariant-loop-index
invariant-loop-index l = l.indices.items ≡ indices_of (take l.index-index l.index-items)
