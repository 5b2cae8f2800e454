use Rattle.effects.proofs.Giving.{grew-memory}
use Rattle.effects.proofs.memories.grow_memory.Goals as goal

pub returns : goal.returns
returns c code =
    let (enough, left) = c.in_ok-left.ensures in
    rw c.grown.ensures (grew-memory code c.args.state.now c.mem_grow.new.state c.args.address c.mem_grow_cost.result c.args.fuel c.in_ok-left.left
    enough left c.mem_grow_cost.ensures.some c.args.pages _ c.mem_grow.result c.mem_grow_cost.ensures.price c.mem_grow.ensures)
