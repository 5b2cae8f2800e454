use Rattle.std.proofs.Common.{◌≡◌, ◌++◌, ◌∷◌, [], List, ap, ◌∙◌}
use Rattle.core_types.specs.declared.types.OperandType.{OperandType}
use Rattle.validator.specs.OperandStack.{operands_in, types_of}
use Rattle.validator.proofs.OperandEntries.{entries_with_one, one_more}
use Rattle.validator.proofs.operand_stack.OperandStack.push.Goals as goal

pub invariant_of-self-2 : goal.invariant_of-self-2
invariant_of-self-2 c = rw (c.in_ok-push.ensures.items, c.of.ensures) (entries_with_one c.args.operand c.self.invariant)

pub returns : goal.returns
returns c =
    let inside = c.self.inside in
    let whole : operands_in c.push.new.self.items (types_of inside.runs.items) ≡ c.args.self.now ++ c.args.operand ∷ [] =
    rw (c.in_ok-push.ensures.items, c.of.ensures) (one_more inside.entries.items (types_of inside.runs.items) c.args.operand
    ∙ ap (λ (z : List OperandType). z ++ c.args.operand ∷ []) c.self.view_is) in
    whole
