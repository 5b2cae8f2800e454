use Rattle.std.proofs.Common.{[], ◌∷◌, ◌++◌, ◌∙◌, ap, reverse}
use Rattle.std.proofs.lemmas.Result.{err_from_is_err_and}
use Rattle.core_types.specs.declared.op.Op.TheVariants as op
use Rattle.meaning.specs.validation.Instructions.{known}
use Rattle.validator.specs.ControlFrames.{otherwise}
use Rattle.validator.proofs.completeness.BlockEnds.{else_refused, else_without_if, else_complete}
use Rattle.validator.proofs.soundness.Instructions.{IsTypingOfRead-parts}
use Rattle.validator.proofs.soundness.ReadBodies.{else_open, took_open}
use Rattle.validator.proofs.instructions.control.blocks.step_else.Goals as goal

pub returns : goal.returns
returns c = λ lent.
    let old = c.args.stacks.now in
    let left = c.finish.new.stacks.operands in
    let finished = c.in_ok-finish.ensures in
    let closes = finished.operands.0 in (
      record {
        sound = record {
          keeps = λ context described read opened.
              IsTypingOfRead-parts context _ (otherwise old.innermost) _ (reverse old.outer.items) _ (left ++ known old.innermost.start_types.now) (read ++ op.Else ∷ [])
              (ap otherwise finished.frames.innermost) (ap (λ v. reverse v.items) finished.frames.outer)
              (c.in_ok-push_types.ensures ∙ ap (λ l. left ++ known l.start_types.now) finished.frames.innermost)
              (else_open (took_open (known old.innermost.end_types.now) opened closes.takes closes.fits) closes.dry c.in-If.is);
        };
        complete = else_complete {old = old} closes.takes closes.fits (ap otherwise finished.frames.innermost)
            (ap (λ v. v.items) finished.frames.outer) (c.in_ok-push_types.ensures ∙ ap (λ l. left ++ known l.start_types.now) finished.frames.innermost);
      },
      tt,
    )

pub returns-in_default : goal.returns-in_default
returns-in_default c = λ lent. (tt, λ invalid. else_without_if {old = c.args.stacks.now} c.in_default.not-If)

pub returns-in_err-finish : goal.returns-in_err-finish
returns-in_err-finish c = λ lent.
    let passed = err_from_is_err_and c.from_residual.result c.from_residual.ensures.1 in
    rw (passed.1, passed.2) (tt, λ invalid. else_refused {old = c.args.stacks.now} (c.in_err-finish.ensures.operands.1 invalid))
