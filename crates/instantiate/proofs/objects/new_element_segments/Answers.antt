use Rattle.std.proofs.Common.{◌∙◌, get_or, ap, sym}
use Rattle.std.specs.Prelude.{Some}
use Rattle.std.proofs.lemmas.List.{get_or_default}
use Rattle.core_types.specs.declared.module.Module.{Module}
use Rattle.meaning.specs.execution.Modules.{map_all, new_elements, references}
use Rattle.meaning.specs.execution.Tables.{ElementInstance}
use Rattle.store.specs.Contents.{Contents, lists_of, module_instance, store_with}
use Rattle.meaning.proofs.lemmas.Lists.{map_all-end, map_all-next, map_all-none}
use Rattle.instantiate.proofs.lemmas.Objects.{fault-passed, new_elements-none, new_elements-some}
use Rattle.instantiate.proofs.objects.new_element_segments.Goals as goal

pub returns-in-Err-clause-none : goal.returns-in-Err-clause-none
returns-in-Err-clause-none c = λ (code : Contents) (m : Module).
    let store = store_with code c.args.state.now in
    let instance = module_instance (lists_of c.args.addresses.now) m in
    let wanted = get_or c.args.wanted.now c.loop-k.k c.index-wanted-k.result in
    fault-passed c.in-Err.fault (references store instance wanted.items) (map_all (new_elements store instance) c.args.wanted.now)
    (λ none. map_all-none (new_elements store instance) c.args.wanted.now c.loop-k.k c.loop-k.elements.items c.index-wanted-k.result
    c.loop-k-test.true (c.loop-k.invariant code m) (new_elements-none store instance wanted none)) (c.in-Err.ensures.none code m)

pub loop-k-preserved : goal.loop-k-preserved
loop-k-preserved c = λ (code : Contents) (m : Module).
    let store = store_with code c.args.state.now in
    let instance = module_instance (lists_of c.args.addresses.now) m in
    let wanted = get_or c.args.wanted.now c.loop-k.k c.index-wanted-k-in-Ok.result in
    let found = rw (get_or_default c.args.wanted.now c.loop-k.k c.index-wanted-k.result c.index-wanted-k-in-Ok.result c.loop-k-test.true) at (c.in-Ok.ensures.values code m) in
    let made = new_elements-some store instance wanted c.in-Ok.found.items found ∙ ap (λ (e : ElementInstance). Some e) (sym c.new.ensures) in
    rw c.in_ok-push-in-Ok.ensures.items
    (map_all-next (new_elements store instance) c.args.wanted.now c.loop-k.k c.loop-k.elements.items c.index-wanted-k-in-Ok.result c.new.result
    c.loop-k-test.true (c.loop-k.invariant code m) made)

pub returns-clause-values : goal.returns-clause-values
returns-clause-values c = λ (code : Contents) (m : Module).
    map_all-end (new_elements (store_with code c.args.state.now) (module_instance (lists_of c.args.addresses.now) m)) c.args.wanted.now c.loop-k.k
    c.loop-k.elements.items c.loop-k-test.false (c.loop-k.invariant code m)
