use Rattle.std.proofs.Common.{[], ◌∷◌, ap, false, refl, subst, sym, ◌++◌, ◌∙◌}
use Rattle.meaning.specs.validation.Instructions.{AllFit, known}
use Rattle.validator.specs.InstructionTypes.{lent_func_type, with_i32}
use Rattle.validator.specs.declared.control_frames.ControlFrame.{ControlFrame}
use Rattle.validator.proofs.Steps.{begin_steps}
use Rattle.validator.proofs.completeness.BlockStarts.{begin_refused_next, no_block_type}
use Rattle.validator.proofs.soundness.ReadBodies.{mark_takes, reverse_push}
use Rattle.validator.proofs.instructions.control.blocks.step_begin.Goals as goal

pub returns : goal.returns
returns c = λ o mark.
    let old = c.args.stacks.now in
    let kind = c.args.kind in
    let ty = c.in-Some.ty in
    let popped = c.pop_operands.new.stacks in
    let (given, takes, fits) = c.if-not-pop_operands.ensures.operands in
    let frame : ControlFrame = record { kind = kind; start_types = ty.params; end_types = ty.results; height = c.len-height.result; unreachable = false } in
    let type = sym c.in-Some.ensures in
    let hand = subst (λ l. AllFit given (known l)) (mark_takes kind c.args.block o c.takes_condition.result ty.params.now mark c.takes_condition.ensures) fits in
    let after = c.in_ok-enter.ensures in
    let outer = after.outer ∙ ap (λ v. v.items ++ popped.innermost ∷ []) c.pop_operands.ensures.frames.outer ∙ ap (λ l. old.outer.items ++ l ∷ []) c.pop_operands.ensures.frames.innermost in (
      begin_steps frame c.args.block o mark type takes hand c.len-height.ensures refl after.innermost
          (reverse_push old.outer.items c.enter.new.stacks.outer.items old.innermost outer) after.operands,
      tt,
    )

pub returns-in_default : goal.returns-in_default
returns-in_default c = λ o mark. (tt, λ invalid. no_block_type c.args.kind c.args.block o mark (sym c.in_default.ensures))

pub returns-then-not-pop_operands : goal.returns-then-not-pop_operands
returns-then-not-pop_operands c = λ o mark. (
  tt,
  λ invalid.
      let kind = c.args.kind in
      let ty = c.in-Some.ty in
      let type = sym c.in-Some.ensures in
      let wanted = mark_takes kind c.args.block o c.takes_condition.result ty.params.now mark c.takes_condition.ensures in
      begin_refused_next kind c.args.block o mark (lent_func_type ty) (with_i32 ty.params.now c.takes_condition.result) type wanted c.if-not-pop_operands.ensures.operands,
)
