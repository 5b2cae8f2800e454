use Rattle.effects.proofs.Giving.{wrote-table}
use Rattle.effects.proofs.tables.fill_table.Goals as goal

pub returns : goal.returns
returns c code =
    let (enough, left) = c.in_ok-left.ensures in
    rw c.written.ensures (wrote-table code c.args.state.now c.table_fill.new.state c.args.address c.table_fill_cost.result c.args.fuel
    c.in_ok-left.left enough left c.table_fill_cost.ensures.some _ _ c.table_fill.result (c.table_fill_cost.ensures.price _)
    (rw c.entry-value.ensures.entry at c.table_fill.ensures))
