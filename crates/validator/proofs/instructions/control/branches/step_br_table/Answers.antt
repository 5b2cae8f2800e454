use Rattle.std.proofs.Common.{◌≡◌, [], ◌∷◌, ◌++◌, ap, refl, subst, sym, append_assoc, length, take, ◌∙◌}
use Rattle.std.proofs.lemmas.List.{length-map, take-append-le}
use Rattle.std.proofs.lemmas.Result.{err_from_is_err_and}
use Rattle.core_types.specs.declared.op.PlainOp.TheVariants.{BrTable}
use Rattle.core_types.specs.declared.types.OperandType.TheVariants.{Known}
use Rattle.core_types.specs.declared.types.ValType.TheVariants.{I32}
use Rattle.meaning.proofs.lemmas.Typing.{AllFit-joined, AllFit-same, AllFit-through}
use Rattle.meaning.specs.validation.Instructions.{AllFit, known}
use Rattle.validator.specs.ControlFrames.{control_stack}
use Rattle.validator.proofs.Labels.{carry-along, carry-through, label-along, label-missing, label-unique}
use Rattle.validator.proofs.OperandStack.{Takes-many, Takes-under}
use Rattle.validator.proofs.completeness.Covers.{AllFit-length, Refuses-misfit, Refuses-under}
use Rattle.validator.proofs.completeness.Instructions.{no_rule, rule_refused}
use Rattle.validator.proofs.Steps.{stop_steps}
use Rattle.validator.proofs.instructions.control.branches.step_br_table.Goals as goal

pub returns : goal.returns
returns c = λ lent.
    let (t, takes, fit) = c.if-not-pop_fitting.ensures in
    let types = c.in-Some.types.now in
    let given = c.in_ok-given.given.items in
    let taken = Takes-under _ _ _ (t ∷ []) _ given _ takes c.in_ok-given.ensures.took in
    let carries = label-along c.args.stacks.now.innermost _ _ c.args.table.now.default types c.deref.ensures.value c.in-Some.ensures.some in
    let fits = subst (λ ts. AllFit ts (known types)) c.deref-2.ensures.value (c.if-not-all_fit.ensures.0 refl) in
    let all = carry-along c.args.stacks.now.innermost _ _ _ given _ _ c.deref-4.ensures.value c.deref-3.ensures.value c.as_slice-2.ensures c.if-not-fit_labels.ensures.fit in
    let stop = c.set_unreachable-2.ensures in
    let all_fit = AllFit-joined given given (t ∷ []) (Known I32 ∷ []) (AllFit-same given) (fit, tt) in (
      stop_steps (BrTable c.args.table.now) (given ++ Known I32 ∷ []) stop.innermost stop.outer taken all_fit stop.operands
          (λ context described any to. (any, given, refl, all, (types, carries, fits))),
      tt,
    )

pub returns-then-not-pop_fitting : goal.returns-then-not-pop_fitting
returns-then-not-pop_fitting c = λ lent. (
  tt,
  λ invalid.
      rule_refused (BrTable c.args.table.now)
      (λ context is theirs others rule.
      let (below, given, parts, all, default) = rule in
      let top = Known I32 ∷ [] in
      (below ++ given, top, c.if-not-pop_fitting.ensures, subst (λ z. AllFit z ((below ++ given) ++ top)) (append_assoc below given top ∙ sym parts) (AllFit-same ((below ++ given) ++ top)))),
)

pub returns-in_default : goal.returns-in_default
returns-in_default c = λ lent. (
  tt,
  λ invalid.
      no_rule (BrTable c.args.table.now)
      (λ context is theirs others rule.
      let (below, given, parts, all, (types, named, fits)) = rule in
      label-missing c.args.stacks.now.innermost _ _ c.args.table.now.default types c.deref.ensures.value c.in_default.ensures.none named),
)

pub returns-in_err-given : goal.returns-in_err-given
returns-in_err-given c = λ lent.
    let passed = err_from_is_err_and c.from_residual.result c.from_residual.ensures.1 in
    rw passed.1 (
      tt,
      λ invalid.
          let (t, takes, fit) = c.if-not-pop_fitting.ensures in
          let types = c.in-Some.types.now in
          let carries = label-along c.args.stacks.now.innermost _ _ c.args.table.now.default types c.deref.ensures.value c.in-Some.ensures.some in
          rule_refused (BrTable c.args.table.now)
          (λ context is theirs others rule.
          let (below, given, parts, all, (named_types, named, fits)) = rule in
          let same = label-unique (control_stack c.args.stacks.now) c.args.table.now.default named_types types named carries in
          let count : length given ≡ length types = AllFit-length given (known named_types) fits ∙ length-map named_types Known ∙ ap length same in
          let wanted = given ++ Known I32 ∷ [] in (
            below,
            wanted,
            Refuses-under _ _ _ _ given t (Known I32) takes ((c.in_err-given.ensures.refused (sym passed.2 ∙ invalid)).at given count),
            subst (λ z. AllFit z (below ++ wanted)) (sym parts) (AllFit-same (below ++ wanted)),
          )),
    )

pub returns-then-not-all_fit : goal.returns-then-not-all_fit
returns-then-not-all_fit c = λ lent. (
  tt,
  λ invalid.
      let (t, takes, fit) = c.if-not-pop_fitting.ensures in
      let types = c.in-Some.types.now in
      let taken = c.in_ok-given.given.items in
      let carries = label-along c.args.stacks.now.innermost _ _ c.args.table.now.default types c.deref.ensures.value c.in-Some.ensures.some in
      let wrong : ¬ AllFit taken (known types) = λ fits. let e = c.if-not-all_fit.ensures.1 (subst (λ ts. AllFit ts (known types)) (sym c.deref-2.ensures.value) fits) in absurd cc in
      rule_refused (BrTable c.args.table.now)
      (λ context is theirs others rule.
      let (below, given, parts, all, (named_types, named, fits)) = rule in
      let same = label-unique (control_stack c.args.stacks.now) c.args.table.now.default named_types types named carries in
      let count : length taken ≡ length given = c.in_ok-given.ensures.count ∙ sym (AllFit-length given (known named_types) fits ∙ length-map named_types Known ∙ ap length same) in
      let wanted = given ++ Known I32 ∷ [] in
      let refuses = Refuses-misfit _ _ _ taken _ given c.in_ok-given.ensures.took count
      (λ fit_given. wrong (AllFit-through taken given (known types) fit_given (subst (λ ts. AllFit given (known ts)) same fits))) in
      (below, wanted, Refuses-under _ _ _ _ given t (Known I32) takes refuses, subst (λ z. AllFit z (below ++ wanted)) (sym parts) (AllFit-same (below ++ wanted)))),
)

pub returns-then-not-fit_labels : goal.returns-then-not-fit_labels
returns-then-not-fit_labels c = λ lent. (
  tt,
  λ invalid.
      let (t, takes, fit) = c.if-not-pop_fitting.ensures in
      let types = c.in-Some.types.now in
      let taken = c.in_ok-given.given.items in
      let carries = label-along c.args.stacks.now.innermost _ _ c.args.table.now.default types c.deref.ensures.value c.in-Some.ensures.some in
      rule_refused (BrTable c.args.table.now)
      (λ context is theirs others rule.
      let (below, given, parts, all, (named_types, named, fits)) = rule in
      let same = label-unique (control_stack c.args.stacks.now) c.args.table.now.default named_types types named carries in
      let count : length taken ≡ length given = c.in_ok-given.ensures.count ∙ sym (AllFit-length given (known named_types) fits ∙ length-map named_types Known ∙ ap length same) in
      let wanted = given ++ Known I32 ∷ [] in
      let refuses = Refuses-misfit _ _ _ taken _ given c.in_ok-given.ensures.took count
      (λ fit_given. c.if-not-fit_labels.ensures.refused
      (carry-along c.args.stacks.now.innermost _ _ taken _ _ _ (sym c.deref-4.ensures.value) (sym c.deref-3.ensures.value)
      (sym c.as_slice-2.ensures) (carry-through c.args.stacks.now.innermost c.args.stacks.now.outer.items taken given _ fit_given all))) in
      (below, wanted, Refuses-under _ _ _ _ given t (Known I32) takes refuses, subst (λ z. AllFit z (below ++ wanted)) (sym parts) (AllFit-same (below ++ wanted)))),
)

pub returns-then-not-have_types : goal.returns-then-not-have_types
returns-then-not-have_types c = λ lent. (
  tt,
  λ invalid.
      let (t, takes, fit) = c.if-not-pop_fitting.ensures in
      let types = c.in-Some.types.now in
      let taken = known types in
      let (rest, parts, high) = c.if-ends_with.ensures in
      let carries = label-along c.args.stacks.now.innermost _ _ c.args.table.now.default types c.deref.ensures.value c.in-Some.ensures.some in
      rule_refused (BrTable c.args.table.now)
      (λ context is theirs others rule.
      let (below, given, whole, all, (named_types, named, fits)) = rule in
      let same = label-unique (control_stack c.args.stacks.now) c.args.table.now.default named_types types named carries in
      let count : length taken ≡ length given = length-map types Known ∙ sym (AllFit-length given (known named_types) fits ∙ length-map named_types Known ∙ ap length same) in
      let wanted = given ++ Known I32 ∷ [] in
      let refuses = Refuses-misfit _ _ _ taken _ given (Takes-many _ _ _ rest taken parts high) count
      (λ fit_given. c.if-not-have_types.ensures.refused
      (carry-along c.args.stacks.now.innermost _ _ taken taken _ _ (sym c.deref-then-ends_with.ensures.value) refl
      (sym c.as_slice.ensures) (carry-through c.args.stacks.now.innermost c.args.stacks.now.outer.items taken given _ fit_given all))) in
      (below, wanted, Refuses-under _ _ _ _ given t (Known I32) takes refuses, subst (λ z. AllFit z (below ++ wanted)) (sym whole) (AllFit-same (below ++ wanted)))),
)

pub returns-then-ends_with : goal.returns-then-ends_with
returns-then-ends_with c = λ lent.
    let (t, takes, fit) = c.if-not-pop_fitting.ensures in
    let types = c.in-Some.types.now in
    let given = known types in
    let (rest, parts, high) = c.if-ends_with.ensures in
    let height = c.args.stacks.now.innermost.height in
    let taken = Takes-under _ _ _ (t ∷ []) _ given _ takes (Takes-many _ _ _ rest given parts high) in
    let carries = label-along c.args.stacks.now.innermost _ _ c.args.table.now.default types c.deref.ensures.value c.in-Some.ensures.some in
    let all = carry-along c.args.stacks.now.innermost _ _ given given _ _ c.deref-then-ends_with.ensures.value refl c.as_slice.ensures c.if-not-have_types.ensures.have in
    let stop = c.set_unreachable.ensures in
    let left = stop.operands ∙ ap (take height) parts ∙ take-append-le height rest given high in
    let all_fit = AllFit-joined given given (t ∷ []) (Known I32 ∷ []) (AllFit-same given) (fit, tt) in (
      stop_steps (BrTable c.args.table.now) (given ++ Known I32 ∷ []) stop.innermost stop.outer taken all_fit left
          (λ context described any to. (any, given, refl, all, (types, carries, AllFit-same given))),
      tt,
    )
