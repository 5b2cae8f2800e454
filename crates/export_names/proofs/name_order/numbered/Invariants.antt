use Rattle.std.proofs.Common.{◌≡◌}
use Rattle.std.specs.List.{range_with_len}
use Rattle.export_names.specs.Order.{HaveNames, indices_of}
use Rattle.export_names.proofs.name_order.numbered.Given as goal

abbrev pub invariant-loop-index : goal.invariant-loop-index
invariant-loop-index l = record {
  indices : indices_of l.found.items ≡ range_with_len 0 l.index;
  named : HaveNames l.exports l.found.items;
}
