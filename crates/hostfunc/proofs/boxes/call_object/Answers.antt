use Rattle.std.proofs.Common.{◌≡◌, IfOk, ap, map, ◌∙◌, sym, subst}
use Rattle.std.specs.DynBox.{dyn_box_with}
use Rattle.meaning.specs.execution.Values.{type_of}
use Rattle.hostfunc.specs.Faults.{IfAnswered}
use Rattle.hostfunc.proofs.Faults.{IfAnswered-weaker}
use Rattle.hostfunc.proofs.boxes.call_object.Goals as goal

pub call_lent-answer-requires : goal.call_lent-answer-requires
call_lent-answer-requires g c = record {
  arguments = subst (λ p. map type_of c.args.args.now ≡ ((goal.HostFn-dyn g p).declared p.1).params) (sym c.as_mut.ensures.value.1) c.requires.arguments;
}

pub returns-clause-same_type : goal.returns-clause-same_type
returns-clause-same_type g c = c.call_lent-answer.ensures.same_type ∙ ap (λ p. (goal.HostFn-dyn g p).declared p.1) c.as_mut.ensures.value.1

pub returns-clause-typed : goal.returns-clause-typed
returns-clause-typed g c =
    subst (λ p. IfOk c.call_lent-answer.result (λ values. map type_of values.items ≡ ((goal.HostFn-dyn g p).declared p.1).results))
    c.as_mut.ensures.value.1 c.call_lent-answer.ensures.typed

pub returns-clause-answered : goal.returns-clause-answered
returns-clause-answered g c =
    subst (λ p. IfAnswered c.call_lent-answer.result (λ answer. (w : _)
    × (dyn_box_with c.args.object.now c.as_mut.result.now.0 c.call_lent-answer.new.object ≡ dyn_box_with c.args.object.now p.0 w)
    × (goal.HostFn-dyn g p).Answers p.1 c.args.args.now c.args.memory.now answer c.call_lent-answer.new.memory w))
    c.as_mut.ensures.value.1
    (IfAnswered-weaker c.call_lent-answer.result _ _ (λ answer h. (h.0, ap (λ p. dyn_box_with c.args.object.now p.0 p.1) h.1, h.2)) c.call_lent-answer.ensures.answered)

pub returns-clause-unchanged : goal.returns-clause-unchanged
returns-clause-unchanged g c = λ e.
    let same = c.call_lent-answer.ensures.unchanged e in
    (ap (λ p. dyn_box_with c.args.object.now p.0 p.1) (same.0 ∙ c.as_mut.ensures.value.1), same.1)
