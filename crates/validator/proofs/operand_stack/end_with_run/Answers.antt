use Rattle.std.proofs.Common.{◌+◌, ◌-◌, ◌≡◌, arith, drop, get_or, length, refl, sym, ◌∙◌}
use Rattle.std.proofs.lemmas.List.{length-drop, take_all}
use Rattle.std.proofs.lemmas.Option.{get_or_from_slice_get, slice_get_within}
use Rattle.validator.specs.declared.entries.Entry.TheVariants as entry
use Rattle.validator.proofs.OperandEntries.{ends_in_run}
use Rattle.validator.proofs.operand_stack.end_with_run.Goals as goal

pub returns : goal.returns
returns c =
    let entries = c.args.entries.now in
    let runs = c.args.runs.now in
    let run = c.in-Some.run'.now in
    let k = length run.now - length c.args.types.now in
    let n = length entries - 1 in
    let m = length runs - 1 in
    let last : n + 1 ≡ length entries = omega (arith, c.if-count-eq0.false) in
    let final : m + 1 ≡ length runs = omega (arith, slice_get_within runs m run (sym c.in-Some.ensures.value)) in
    let same : entry.Run ≡ get_or entries n entry.Run = rw (c.if-not-is_run.ensures.0 refl) at c.index-entries-count.is in
    let is = sym (get_or_from_slice_get runs m run run (sym c.in-Some.ensures.value)) in
    let ends : drop k run.now ≡ c.args.types.now =
    sym (take_all (length run.now - k) (drop k run.now) (omega (arith, length-drop k run.now))) ∙ c.if-not-are_equal.ensures.0 refl in
    ends_in_run entries runs run c.args.types.now n m k c.requires last same final is ends
