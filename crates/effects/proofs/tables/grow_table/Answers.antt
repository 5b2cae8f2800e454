use Rattle.effects.proofs.Giving.{grew-table}
use Rattle.effects.proofs.tables.grow_table.Goals as goal

pub returns : goal.returns
returns c code =
    let (enough, left) = c.in_ok-left.ensures in
    rw c.grown.ensures (grew-table code c.args.state.now c.table_grow.new.state c.args.address c.table_grow_cost.result c.args.fuel c.in_ok-left.left
    enough left c.table_grow_cost.ensures.some _ c.args.count _ c.table_grow.result c.table_grow_cost.ensures.price
    (rw c.entry-value.ensures.entry at c.table_grow.ensures))
