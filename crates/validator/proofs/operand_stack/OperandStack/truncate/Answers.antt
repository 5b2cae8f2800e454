use Rattle.std.proofs.Common.{◌≡◌, [], ap, arith, take, ◌∙◌}
use Rattle.std.proofs.lemmas.Bool.Decides.{nat_tests}
use Rattle.std.proofs.lemmas.List.{nil_from_length}
use Rattle.validator.specs.OperandStack.{AreEntries, operands_in, types_of}
use Rattle.validator.proofs.OperandEntries.{entries_of_take, operands_of_take}
use Rattle.validator.proofs.operand_stack.OperandStack.truncate.Goals as goal

pub invariant_of-self : goal.invariant_of-self
invariant_of-self c =
    let inside = c.self.inside in
    let none : inside.runs.items ≡ [] = nil_from_length inside.runs.items (grind (arith, nat_tests, c.is_empty.ensures, c.if-is_empty.true)) in
    let kept : AreEntries inside.entries.items [] inside.more = rw (ap types_of none) at c.self.invariant in
    rw (c.truncate.ensures.items, none) (entries_of_take c.args.len kept)

pub returns-then-is_empty : goal.returns-then-is_empty
returns-then-is_empty c =
    let inside = c.self.inside in
    let none : inside.runs.items ≡ [] = nil_from_length inside.runs.items (grind (arith, nat_tests, c.is_empty.ensures, c.if-is_empty.true)) in
    let kept : AreEntries inside.entries.items [] inside.more = rw (ap types_of none) at c.self.invariant in
    let whole : operands_in c.truncate.new.self.items (types_of inside.runs.items) ≡ take c.args.len c.args.self.now =
    rw (c.truncate.ensures.items, none) (operands_of_take c.args.len inside.entries.items kept.each ∙ ap (take c.args.len) (rw none at c.self.view_is)) in
    whole
