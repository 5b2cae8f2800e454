use Rattle.effects.proofs.Giving.{wrote-memory}
use Rattle.effects.proofs.memories.init_memory.Goals as goal

pub returns : goal.returns
returns c code =
    let (enough, left) = c.in_ok-left.ensures in
    rw c.written.ensures (wrote-memory code c.args.state.now c.mem_init.new.state c.args.address c.mem_init_cost-cost.result c.args.fuel
    c.in_ok-left.left enough left c.mem_init_cost-cost.ensures.some c.args.count _ c.mem_init.result c.mem_init_cost-cost.ensures.price c.mem_init.ensures)
