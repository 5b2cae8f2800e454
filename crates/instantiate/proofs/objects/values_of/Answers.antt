use Rattle.std.proofs.Common.{◌∙◌, ap, sym}
use Rattle.core_types.specs.declared.module.Module.{Module}
use Rattle.meaning.specs.execution.Modules.{constant_value}
use Rattle.store.specs.Contents.{Contents, lists_of, module_instance, store_with}
use Rattle.meaning.proofs.lemmas.Lists.{map_all-end, map_all-next, map_all-none}
use Rattle.instantiate.proofs.objects.values_of.Goals as goal

pub returns-in-None-clause-none : goal.returns-in-None-clause-none
returns-in-None-clause-none c = λ (code : Contents) (m : Module).
    let f = constant_value (store_with code c.args.state.now) (module_instance (lists_of c.args.addresses.now) m) in
    map_all-none f c.args.expressions.now c.loop-k.k c.loop-k.found.items c.index-expressions-k.result c.loop-k-test.true (c.loop-k.invariant code m)
    (ap f (sym c.index-expressions-k.is) ∙ sym (c.in_ok-value.ensures code m) ∙ c.in-None.is)

pub loop-k-preserved : goal.loop-k-preserved
loop-k-preserved c = λ (code : Contents) (m : Module).
    let f = constant_value (store_with code c.args.state.now) (module_instance (lists_of c.args.addresses.now) m) in
    rw c.in_ok-push-in-Some.ensures.items
    (map_all-next f c.args.expressions.now c.loop-k.k c.loop-k.found.items c.index-expressions-k.result c.in-Some.value c.loop-k-test.true
    (c.loop-k.invariant code m) (ap f (sym c.index-expressions-k.is) ∙ sym (c.in_ok-value.ensures code m) ∙ c.in-Some.is))

pub returns-clause-values : goal.returns-clause-values
returns-clause-values c = λ (code : Contents) (m : Module).
    map_all-end (constant_value (store_with code c.args.state.now) (module_instance (lists_of c.args.addresses.now) m)) c.args.expressions.now
    c.loop-k.k c.loop-k.found.items c.loop-k-test.false (c.loop-k.invariant code m)
