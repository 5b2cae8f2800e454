use Rattle.effects.proofs.Giving.{wrote-table}
use Rattle.effects.proofs.tables.copy_table.Goals as goal

pub returns : goal.returns
returns c code =
    let (enough, left) = c.in_ok-left.ensures in
    rw c.written.ensures (wrote-table code c.args.state.now c.table_copy.new.state c.args.address c.table_copy_cost-cost.result c.args.fuel
    c.in_ok-left.left enough left c.table_copy_cost-cost.ensures.some _ _ c.table_copy.result c.table_copy_cost-cost.ensures.price c.table_copy.ensures)
