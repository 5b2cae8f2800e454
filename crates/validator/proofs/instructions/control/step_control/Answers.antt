use Rattle.std.proofs.Common.{[], inl, inr, refl}
use Rattle.core_types.specs.declared.op.ControlOp.TheVariants.{Call, CallIndirect, Nop, ReturnCall, ReturnCallIndirect, Unreachable}
use Rattle.core_types.specs.declared.op.PlainOp.TheVariants.{Control}
use Rattle.meaning.specs.validation.Types.{function_type}
use Rattle.validator.proofs.OperandStack.{Takes-nothing}
use Rattle.validator.proofs.Steps.{fixed_steps, stop_steps}
use Rattle.validator.proofs.instructions.control.step_control.Goals as goal

pub returns-in-Unreachable : goal.returns-in-Unreachable
returns-in-Unreachable c =
    let old = c.args.stacks.now in
    let taken = Takes-nothing old.innermost.unreachable old.innermost.height old.operands in
    rw c.in-Unreachable.is (
      stop_steps (Control Unreachable) [] c.set_unreachable.ensures.innermost c.set_unreachable.ensures.outer taken tt
          c.set_unreachable.ensures.operands (λ context described any to. tt),
      tt,
    )

pub returns-in-Nop : goal.returns-in-Nop
returns-in-Nop c =
    rw c.in-Nop.is
    (fixed_steps c.args.context.now c.args.stacks.now _ c.apply.result (Control Nop) _ (function_type [] []) c.takes_gives.ensures
    (λ context. (refl, refl)) (λ context operands results rule. rule) c.apply.ensures)

pub returns-in-Call : goal.returns-in-Call
returns-in-Call c = rw c.in-Call.is (c.apply_some.ensures c.args.context.now (Control (Call c.in-Call.index)) c.type_of_call.ensures)

pub returns-in-CallIndirect : goal.returns-in-CallIndirect
returns-in-CallIndirect c = rw c.in-CallIndirect.is
    (c.apply_some-in-CallIndirect.ensures c.args.context.now (Control (CallIndirect c.in-CallIndirect.ty c.in-CallIndirect.table))
    c.type_of_call_indirect.ensures)

pub returns-in-ReturnCall : goal.returns-in-ReturnCall
returns-in-ReturnCall c =
    let x = c.in-ReturnCall.index in
    rw c.in-ReturnCall.is (c.step_tail_call.ensures (Call x) (ReturnCall x) (inl (x, refl, refl)) c.type_of_call-in-ReturnCall.ensures)

pub returns-in-ReturnCallIndirect : goal.returns-in-ReturnCallIndirect
returns-in-ReturnCallIndirect c =
    let type = c.in-ReturnCallIndirect.ty in
    let x = c.in-ReturnCallIndirect.table in
    rw c.in-ReturnCallIndirect.is
    (c.step_tail_call-in-ReturnCallIndirect.ensures (CallIndirect type x) (ReturnCallIndirect type x) (inr (type, x, refl, refl)) c.type_of_call_indirect-in-ReturnCallIndirect.ensures)
