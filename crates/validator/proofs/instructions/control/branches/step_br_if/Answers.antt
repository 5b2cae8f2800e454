use Rattle.std.proofs.Common.{◌++◌, ◌∷◌, [], ap, refl, ◌∙◌}
use Rattle.core_types.specs.declared.op.ControlOp.TheVariants.{BrIf}
use Rattle.core_types.specs.declared.op.PlainOp.TheVariants.{Control}
use Rattle.core_types.specs.declared.types.ValType.TheVariants.{I32}
use Rattle.meaning.specs.validation.Instructions.{known}
use Rattle.validator.specs.ControlFrames.{control_stack}
use Rattle.validator.proofs.Labels.{label-along, label-missing, label-unique}
use Rattle.validator.proofs.completeness.Instructions.{no_rule}
use Rattle.validator.proofs.instructions.control.branches.step_br_if.Goals as goal

pub returns : goal.returns
returns c = λ lent.
    let old = c.args.stacks.now in
    let types = c.in-Some.types.now in
    let carries = label-along old.innermost _ _ c.args.index types c.deref.ensures.value c.in-Some.ensures.some in
    c.apply_above.ensures lent (Control (BrIf c.args.index)) (record {
      rule = λ context described. (types, carries, (refl, refl));
      only = λ context described theirs others rule.
          let (named_types, named, (operands, results)) = rule in
          let same = label-unique (control_stack old) c.args.index named_types types named carries in
          (operands ∙ ap (λ z. known (z ++ I32 ∷ [])) same, results ∙ ap known same);
    })

pub returns-in_default : goal.returns-in_default
returns-in_default c = λ lent. (
  tt,
  λ invalid.
      no_rule (Control (BrIf c.args.index))
      (λ context is theirs others rule. let (types, named, shape) = rule in
      label-missing c.args.stacks.now.innermost _ _ c.args.index types c.deref.ensures.value c.in_default.ensures.none named),
)
