use Rattle.effects.proofs.Giving.{wrote-memory}
use Rattle.effects.proofs.memories.fill_memory.Goals as goal

pub returns : goal.returns
returns c code =
    let (enough, left) = c.in_ok-left.ensures in
    rw c.written.ensures (wrote-memory code c.args.state.now c.mem_fill.new.state c.args.address c.mem_fill_cost.result c.args.fuel c.in_ok-left.left
    enough left c.mem_fill_cost.ensures.some c.args.count _ c.mem_fill.result (c.mem_fill_cost.ensures.price c.args.value) c.mem_fill.ensures)
