use Rattle.std.proofs.Common.{◌≡◌, [], ◌∷◌, ◌++◌, ◌∙◌, ap, false, refl, reverse, subst, sym, true}
use Rattle.std.proofs.lemmas.List.{nil_from_length}
use Rattle.std.proofs.lemmas.Result.{err_from_is_err_and}
use Rattle.core_types.specs.declared.op.Op.TheVariants as op
use Rattle.meaning.specs.validation.Instructions.{known}
use Rattle.validator.specs.Soundness.{IsTypingOfRead}
use Rattle.validator.proofs.completeness.BlockEnds.{end_needs_else, end_refused, end_complete, end_outside_refused}
use Rattle.validator.proofs.soundness.Instructions.{IsTypingOfRead-parts}
use Rattle.validator.proofs.soundness.ReadBodies.{close_open, reverse_push, took_open}
use Rattle.validator.proofs.instructions.control.blocks.step_end.Goals as goal

pub returns : goal.returns
returns c = λ lent.
    let old = c.args.stacks.now in
    let around = c.in-Some.around in
    let below = c.pop.new.self.items in
    let left = c.finish.new.stacks.operands in
    let finished = c.in_ok-finish.ensures in
    let closes = finished.operands.0 in
    let split = reverse_push below old.outer.items around (sym (ap (λ v. v.items) finished.frames.outer) ∙ c.in-Some.ensures.items) in (
      record {
        sound = record {
          keeps = λ context described read opened.
              let whole = subst (λ ls. IsTypingOfRead context old.innermost ls left (known old.innermost.end_types.now) read) split
              (took_open (known old.innermost.end_types.now) opened closes.takes closes.fits) in
              IsTypingOfRead-parts context _ around _ (reverse below) _ (left ++ known old.innermost.end_types.now) (read ++ op.End ∷ [])
              c.replace-inner.ensures.after refl (c.in_ok-push_types.ensures ∙ ap (λ l. left ++ known l.end_types.now) (c.replace-inner.ensures.value ∙ finished.frames.innermost))
              (close_open whole closes.dry (c.if-not-needs_no_else.ensures.0 refl));
        };
        complete = end_complete {old = old} around below split closes.takes closes.fits c.replace-inner.ensures.after refl
            (c.in_ok-push_types.ensures ∙ ap (λ l. left ++ known l.end_types.now) (c.replace-inner.ensures.value ∙ finished.frames.innermost));
      },
      tt,
    )

pub returns-then-not-needs_no_else : goal.returns-then-not-needs_no_else
returns-then-not-needs_no_else c = λ lent. (tt, λ invalid. end_needs_else {old = c.args.stacks.now} (λ alone. let e : false ≡ true = c.if-not-needs_no_else.ensures.1 alone in cc))

pub returns-in_err-finish : goal.returns-in_err-finish
returns-in_err-finish c = λ lent.
    let passed = err_from_is_err_and c.from_residual.result c.from_residual.ensures.1 in
    rw (passed.1, passed.2) (tt, λ invalid. end_refused {old = c.args.stacks.now} (c.in_err-finish.ensures.operands.1 invalid))

pub returns-in_default : goal.returns-in_default
returns-in_default c = λ lent. (
  tt,
  λ invalid.
      let outer = c.finish.new.stacks.outer in
      end_outside_refused {old = c.args.stacks.now} (sym (ap (λ v. v.items) c.in_ok-finish.ensures.frames.outer) ∙ nil_from_length outer.items (sym outer.ok.0 ∙ c.in_default.ensures.cases.0)),
)
