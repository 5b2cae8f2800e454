use Rattle.export_names.proofs.Numbering.{sort_orders}
use Rattle.export_names.proofs.name_order.sorted.Goals as goal

pub returns : goal.returns
returns c =
    sort_orders c.args.exports.now c.in_ok-found.found.items c.sort_unstable.new.self.items c.in_ok-found.ensures c.sort_unstable.ensures.permutation c.sort_unstable.ensures.sorted
