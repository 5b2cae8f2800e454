use Rattle.std.proofs.Common.{map, refl, ap, take, ◌∙◌}
use Rattle.core_types.specs.declared.op.PlainOp.TheVariants.{Control}
use Rattle.validator.specs.ControlFrames.{control_stack, label_of, unreachable_from_here}
use Rattle.validator.proofs.Steps.{stop_steps}
use Rattle.validator.proofs.TailCalls.{tail_differs, tail_missing, tail_refused, tail_rule_of}
use Rattle.validator.proofs.instructions.control.calls.step_tail_call.Goals as goal

pub returns : goal.returns
returns c = λ call tail is found.
    let old = c.args.stacks.now in
    let (given, takes, fits) = c.if-not-pop_operands.ensures.operands in
    let type = (rw c.in-Some.is at found) (map label_of (control_stack old)) in
    let stop = c.set_unreachable.ensures in
    let frames = c.pop_operands.ensures.frames in
    let left = c.pop_operands.new.stacks.operands in (
      stop_steps (Control tail) _ (stop.innermost ∙ ap unreachable_from_here frames.innermost) (stop.outer ∙ frames.outer) takes fits
          (stop.operands ∙ ap (λ l. take l.height left) frames.innermost) (tail_rule_of c.args.stacks.now is _ type (c.if-not-are_equal.ensures.0 refl)),
      tt,
    )

pub returns-in_default : goal.returns-in_default
returns-in_default c = λ call tail is found. (tt, λ invalid. tail_missing c.args.stacks.now is ((rw c.in_default.is at found) (map label_of (control_stack c.args.stacks.now))))

pub returns-then-not-are_equal : goal.returns-then-not-are_equal
returns-then-not-are_equal c = λ call tail is found. (
  tt,
  λ invalid.
      tail_differs c.args.stacks.now is _ ((rw c.in-Some.is at found) (map label_of (control_stack c.args.stacks.now))) (λ same. let e = c.if-not-are_equal.ensures.1 same in absurd cc),
)

pub returns-then-not-pop_operands : goal.returns-then-not-pop_operands
returns-then-not-pop_operands c = λ call tail is found. (
  tt,
  λ invalid. tail_refused c.args.stacks.now is _ ((rw c.in-Some.is at found) (map label_of (control_stack c.args.stacks.now))) c.if-not-pop_operands.ensures.operands,
)
