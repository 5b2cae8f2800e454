use Rattle.std.proofs.Common.{ap, arith, length}
use Rattle.validator.proofs.OperandStack.{popped-less}
use Rattle.validator.proofs.operand_stack.OperandStack.truncate_runs.Goals as goal

pub loop-self-smaller : goal.loop-self-smaller
loop-self-smaller c =
    let same = c.in-None.ensures.kept in
    let less = popped-less c.pop_run.new.self c.pop.new.self c.pop.result c.pop.ensures.popped c.pop.ensures.none (omega (arith, ap length same, c.loop-self-test.true, c.len.ensures)) in
    omega (arith, less, ap length same)
