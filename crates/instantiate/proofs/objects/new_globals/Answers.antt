use Rattle.std.proofs.Common.{◌∙◌, ap, sym}
use Rattle.core_types.specs.declared.module.Module.{Module}
use Rattle.meaning.specs.execution.Modules.{new_global}
use Rattle.store.specs.Contents.{Contents, lists_of, module_instance, store_with}
use Rattle.meaning.proofs.lemmas.Lists.{map_all-end, map_all-next, map_all-none}
use Rattle.instantiate.proofs.objects.new_globals.Goals as goal

pub returns-in-None-clause-none : goal.returns-in-None-clause-none
returns-in-None-clause-none c = λ (code : Contents) (m : Module).
    let f = new_global (store_with code c.args.state.now) (module_instance (lists_of c.args.addresses.now) m) in
    map_all-none f c.args.wanted.now c.loop-k.k c.loop-k.globals.items c.index-wanted-k.result c.loop-k-test.true (c.loop-k.invariant code m)
    (ap f (sym c.index-wanted-k.is) ∙ sym (c.in_ok-variable.ensures code m) ∙ c.in-None.is)

pub loop-k-preserved : goal.loop-k-preserved
loop-k-preserved c = λ (code : Contents) (m : Module).
    let f = new_global (store_with code c.args.state.now) (module_instance (lists_of c.args.addresses.now) m) in
    rw c.in_ok-push-in-Some.ensures.items
    (map_all-next f c.args.wanted.now c.loop-k.k c.loop-k.globals.items c.index-wanted-k.result c.in-Some.variable c.loop-k-test.true
    (c.loop-k.invariant code m) (ap f (sym c.index-wanted-k.is) ∙ sym (c.in_ok-variable.ensures code m) ∙ c.in-Some.is))

pub returns-clause-values : goal.returns-clause-values
returns-clause-values c = λ (code : Contents) (m : Module).
    map_all-end (new_global (store_with code c.args.state.now) (module_instance (lists_of c.args.addresses.now) m)) c.args.wanted.now c.loop-k.k
    c.loop-k.globals.items c.loop-k-test.false (c.loop-k.invariant code m)
