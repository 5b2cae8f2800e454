use Rattle.std.proofs.Common.{ℕ, sym}
use Rattle.core_types.specs.declared.module.Module.{Module}
use Rattle.core_types.specs.declared.op.PlainOp.TheVariants.{Reference}
use Rattle.core_types.specs.declared.op.ReferenceOp.TheVariants.{Func}
use Rattle.meaning.specs.execution.Modules.{constant}
use Rattle.store.specs.Contents.{Contents, lists_of, module_instance, store_with}
use Rattle.meaning.proofs.lemmas.Lists.{map_all-end, map_all-next, map_all-none}
use Rattle.instantiate.proofs.objects.function_references.Goals as goal

pub returns-in-None-clause-none : goal.returns-in-None-clause-none
returns-in-None-clause-none c = λ (code : Contents) (m : Module).
    map_all-none (λ (x : ℕ). constant (store_with code c.args.state.now) (module_instance (lists_of c.args.addresses.now) m) (Reference (Func x)))
    c.args.indices.now c.loop-k.k c.loop-k.found.items 0 c.loop-k-test.true (c.loop-k.invariant code m) (sym (c.in-None.ensures code m))

pub loop-k-preserved : goal.loop-k-preserved
loop-k-preserved c = λ (code : Contents) (m : Module).
    rw c.in_ok-push-in-Some.ensures.items
    (map_all-next (λ (x : ℕ). constant (store_with code c.args.state.now) (module_instance (lists_of c.args.addresses.now) m)
    (Reference (Func x))) c.args.indices.now c.loop-k.k c.loop-k.found.items 0 c.in-Some.value c.loop-k-test.true (c.loop-k.invariant code m)
    (sym (c.in-Some.ensures code m)))

pub returns-clause-values : goal.returns-clause-values
returns-clause-values c = λ (code : Contents) (m : Module).
    map_all-end (λ (x : ℕ). constant (store_with code c.args.state.now) (module_instance (lists_of c.args.addresses.now) m) (Reference (Func x)))
    c.args.indices.now c.loop-k.k c.loop-k.found.items c.loop-k-test.false (c.loop-k.invariant code m)
