use Rattle.std.proofs.Common.{◌++◌, ap, refl, subst, sym, ◌∙◌}
use Rattle.core_types.specs.declared.op.ControlOp.TheVariants.{Br}
use Rattle.core_types.specs.declared.op.PlainOp.TheVariants.{Control}
use Rattle.meaning.proofs.lemmas.Typing.{AllFit-same}
use Rattle.meaning.specs.validation.Instructions.{AllFit, known}
use Rattle.validator.specs.ControlFrames.{control_stack}
use Rattle.validator.proofs.Labels.{label-along, label-missing, label-unique}
use Rattle.validator.proofs.completeness.Instructions.{no_rule, rule_refused}
use Rattle.validator.proofs.Steps.{stop_steps}
use Rattle.validator.proofs.instructions.control.branches.step_br.Goals as goal

pub returns : goal.returns
returns c = λ lent.
    let (given, takes, fits) = c.if-not-pop_types.ensures in
    let types = c.in-Some.types.now in
    let carries = label-along c.args.stacks.now.innermost _ _ c.args.index types c.deref.ensures.value c.in-Some.ensures.some in
    let stop = c.set_unreachable.ensures in
    (stop_steps (Control (Br c.args.index)) (known types) stop.innermost stop.outer takes fits stop.operands (λ context described any to. (any, types, carries, refl)), tt)

pub returns-in_default : goal.returns-in_default
returns-in_default c = λ lent. (
  tt,
  λ invalid.
      no_rule (Control (Br c.args.index))
      (λ context is theirs others rule. let (below, types, named, parts) = rule in
      label-missing c.args.stacks.now.innermost _ _ c.args.index types c.deref.ensures.value c.in_default.ensures.none named),
)

pub returns-then-not-pop_types : goal.returns-then-not-pop_types
returns-then-not-pop_types c = λ lent. (
  tt,
  λ invalid.
      let types = c.in-Some.types.now in
      let carries = label-along c.args.stacks.now.innermost _ _ c.args.index types c.deref.ensures.value c.in-Some.ensures.some in
      rule_refused (Control (Br c.args.index))
      (λ context is theirs others rule.
      let (below, named_types, named, parts) = rule in
      let same = label-unique (control_stack c.args.stacks.now) c.args.index named_types types named carries in
      (below, known types, c.if-not-pop_types.ensures, subst (λ z. AllFit z (below ++ known types)) (sym (parts ∙ ap (λ z. below ++ known z) same)) (AllFit-same (below ++ known types)))),
)
