use Rattle.std.proofs.Common.{arith}
use Rattle.interpreter.specs.Calling.{CallsModule}
use Rattle.interpreter.specs.Looping.{world_at}
use Rattle.interpreter.proofs.frames.enter_function.Goals as goal

pub returns-then-len-around : goal.returns-then-len-around
returns-then-len-around c =
    let calls : CallsModule c.args.around.bound (world_at c.args.around c.args.state.now c.args.memory.now) c.args.cells.now c.args.callers.now
    c.args.at.now c.args.from c.args.function.now = rw c.in-Nested.is at c.requires.calls in
    calls.no_depth c.requires.paid (omega (arith, c.if-len-around.true, c.len.ensures))
