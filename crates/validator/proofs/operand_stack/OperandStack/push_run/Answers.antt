use Rattle.std.proofs.Common.{◌≡◌, ◌++◌, ◌+◌, ◌<◌, ◌≤◌, ◌^◌, List, ap, arith, length, ◌∙◌}
use Rattle.std.proofs.lemmas.Bool.Decides.{nat_tests}
use Rattle.std.proofs.lemmas.List.{map-append}
use Rattle.core_types.specs.declared.types.OperandType.{OperandType}
use Rattle.meaning.specs.validation.Instructions.{known}
use Rattle.validator.specs.OperandStack.{operands_in, types_of}
use Rattle.validator.proofs.OperandEntries.{entries_with_run, run_more}
use Rattle.validator.proofs.operand_stack.OperandStack.push_run.Goals as goal

pub invariant_of-self-in-Ok : goal.invariant_of-self-in-Ok
invariant_of-self-in-Ok c =
    let inside = c.self.inside in
    let types = c.args.types.now in
    let some : 0 < length types = grind (arith, nat_tests, c.is_empty.ensures, c.if-is_empty.false) in
    let few : inside.more + length types ≤ 2 ^ 62 = omega (arith, c.if-types-room.false, c.self.invariant.few) in
    rw (c.in-Ok.ensures.items, c.run.ensures, c.in_ok-push.ensures.items, map-append) (entries_with_run types some few c.self.invariant)

pub returns-in-Ok : goal.returns-in-Ok
returns-in-Ok c =
    let inside = c.self.inside in
    let types = c.args.types.now in
    let each = c.self.invariant.each in
    let whole : operands_in c.push-2.new.self.items (types_of c.push.new.self.items) ≡ c.args.self.now ++ known types =
    rw (c.in-Ok.ensures.items, c.run.ensures, c.in_ok-push.ensures.items, map-append)
    (run_more inside.entries.items (types_of inside.runs.items) types each ∙ ap (λ (z : List OperandType). z ++ known types) c.self.view_is) in
    whole
