use Rattle.std.proofs.Common.{◌+◌, ◌≤◌, ap, arith, length}
use Rattle.validator.specs.OperandStack.{EndEach, EndIn, types_of}
use Rattle.validator.proofs.OperandEntries.{count_of, ends_above, ends_in_each}
use Rattle.validator.proofs.operand_stack.OperandStack.ends_with.Goals as goal

pub returns-then-end_with_each : goal.returns-then-end_with_each
returns-then-end_with_each c =
    let entries = c.self.inside.entries.items in
    let types = c.args.types.now in
    let enough : c.args.height + length types ≤ length c.args.self.now =
    omega (arith, c.if-len-types.false, c.if-len-types-2.false, c.len.ensures, count_of c.self.invariant, ap length c.self.view_is) in
    let each : EndEach entries types = rw (← c.deref.ensures.value) (c.if-end_with_each.ensures) in
    let ends : EndIn c.args.self.now types = rw (← c.self.view_is) (ends_in_each entries (types_of c.self.inside.runs.items) types each) in
    ends_above c.args.self.now types c.args.height ends enough

pub returns : goal.returns
returns c =
    let types = c.args.types.now in
    let enough : c.args.height + length types ≤ length c.args.self.now =
    omega (arith, c.if-len-types.false, c.if-len-types-2.false, c.len.ensures, count_of c.self.invariant, ap length c.self.view_is) in
    let ends : EndIn c.args.self.now types = rw (← c.self.view_is, ← c.deref-2.ensures.value, ← c.deref-3.ensures.value) (c.if-not-end_with_run.ensures) in
    ends_above c.args.self.now types c.args.height ends enough
