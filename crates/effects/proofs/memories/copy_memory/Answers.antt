use Rattle.effects.proofs.Giving.{wrote-memory}
use Rattle.effects.proofs.memories.copy_memory.Goals as goal

pub returns : goal.returns
returns c code =
    let (enough, left) = c.in_ok-left.ensures in
    rw c.written.ensures (wrote-memory code c.args.state.now c.mem_copy.new.state c.args.address c.mem_copy_cost.result c.args.fuel c.in_ok-left.left
    enough left c.mem_copy_cost.ensures.some c.args.count _ c.mem_copy.result c.mem_copy_cost.ensures.price c.mem_copy.ensures)
