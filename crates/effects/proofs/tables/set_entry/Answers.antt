use Rattle.std.proofs.Common.{arith}
use Rattle.effects.proofs.Giving.{price-one, wrote-table}
use Rattle.effects.proofs.tables.set_entry.Goals as goal

pub returns : goal.returns
returns c code =
    let (enough, left) = c.in_ok-left.ensures in
    rw c.written.ensures (wrote-table code c.args.state.now c.table_set.new.state c.args.address 1 c.args.fuel c.in_ok-left.left enough left
    (omega arith) 1 _ c.table_set.result (price-one _) (rw c.entry-value.ensures.entry at c.table_set.ensures))
