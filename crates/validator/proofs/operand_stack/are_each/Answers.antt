use Rattle.std.proofs.Common.{◌<◌, ◌∙◌, length, arith, sym}
use Rattle.core_types.specs.declared.types.ValType.TheVariants.{I32}
use Rattle.validator.proofs.OperandEntries.{each-last, each-up}
use Rattle.validator.proofs.Pops.{both, first_of_both, second_of_both}
use Rattle.validator.proofs.operand_stack.are_each.Goals as goal

pub loop-i-preserved : goal.loop-i-preserved
loop-i-preserved c =
    let first : c.loop-i.i < length c.args.entries.now = omega arith in
    let second : c.loop-i.i < length c.args.types.now = omega arith in (
      λ both_are. let equal = second_of_both c.loop-i.equal c.is_known-equal.result both_are in
          each-up c.args.entries.now c.args.types.now c.loop-i.i c.index-entries-i.result I32 first second
          (c.loop-i.invariant.0 (first_of_both c.loop-i.equal c.is_known-equal.result both_are)) (sym c.index-entries-i.is ∙ c.is_known-equal.ensures.0 equal),
      λ all. let (before, last) = each-last c.args.entries.now c.args.types.now c.loop-i.i c.index-entries-i.result I32 first second all in
          both c.loop-i.equal c.is_known-equal.result (c.loop-i.invariant.1 before) (c.is_known-equal.ensures.1 (c.index-entries-i.is ∙ last)),
    )
