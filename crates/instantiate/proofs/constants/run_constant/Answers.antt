use Rattle.std.proofs.Common.{ap, arith, sym}
use Rattle.std.specs.Prelude.{List, reverse}
use Rattle.std.proofs.lemmas.Option.{get_or_from_slice_get}
use Rattle.core_types.specs.Expressions.{lent_op}
use Rattle.core_types.specs.declared.module.Module.{Module}
use Rattle.core_types.specs.declared.outcome.Val.{Val}
use Rattle.meaning.specs.execution.Modules.{constant_operands}
use Rattle.store.specs.Contents.{Contents, lists_of, module_instance, store_with}
use Rattle.instantiate.proofs.lemmas.Constants.{run-none, run-on}
use Rattle.instantiate.proofs.constants.run_constant.Goals as goal

pub loop-k-init : goal.loop-k-init
loop-k-init c = (
  omega (arith, c.clear.ensures.len),
  omega (arith),
  λ (contents : Contents) (m : Module).
      ap (λ (vs : List Val). constant_operands (store_with contents c.args.state.now) (module_instance (lists_of c.args.addresses.now) m)
      c.args.code.now (reverse vs)) c.clear.ensures.items,
)

pub execute-requires : goal.execute-requires
execute-requires c = record { room = omega (arith, c.loop-k.invariant.0, c.loop-k.invariant.1, c.loop-k-test.true, c.len-k-end.ensures, c.requires.room, c.clear.ensures.capacity) }

pub returns-then-not-execute-clause-value : goal.returns-then-not-execute-clause-value
returns-then-not-execute-clause-value c = λ (contents : Contents) (m : Module).
    run-none (store_with contents c.args.state.now) (module_instance (lists_of c.args.addresses.now) m) c.args.code.now c.loop-k.k
    c.loop-k.operands.items (c.loop-k.invariant.2 contents m) (lent_op c.get.result) (omega (arith, c.loop-k-test.true, c.len-k-end.ensures))
    (sym (get_or_from_slice_get c.args.code.now c.loop-k.k (lent_op c.get.result) (lent_op c.get.result) c.get.ensures))
    (c.execute.ensures.none c.if-not-execute.true contents m _)

pub returns-then-not-execute-clause-capacity : goal.returns-then-not-execute-clause-capacity
returns-then-not-execute-clause-capacity c = omega (arith, c.loop-k.invariant.1, c.clear.ensures.capacity, c.execute.ensures.capacity)

pub loop-k-preserved : goal.loop-k-preserved
loop-k-preserved c = (
  omega (arith, c.loop-k.invariant.0, c.execute.ensures.len),
  omega (arith, c.loop-k.invariant.1, c.execute.ensures.capacity),
  λ (contents : Contents) (m : Module).
      run-on (store_with contents c.args.state.now) (module_instance (lists_of c.args.addresses.now) m) c.args.code.now c.loop-k.k
      c.loop-k.operands.items (c.loop-k.invariant.2 contents m) (lent_op c.get.result) c.execute.new.operands.items
      (omega (arith, c.loop-k-test.true, c.len-k-end.ensures))
      (sym (get_or_from_slice_get c.args.code.now c.loop-k.k (lent_op c.get.result) (lent_op c.get.result) c.get.ensures))
      (c.execute.ensures.done c.if-not-execute.false contents m _),
)
