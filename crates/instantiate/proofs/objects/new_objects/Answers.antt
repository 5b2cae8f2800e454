use Rattle.std.proofs.lemmas.Result.{err_from_is_err_and}
use Rattle.meaning.specs.execution.Modules.{map_all, new_elements, new_global, new_objects}
use Rattle.store.specs.Contents.{lists_of, module_instance, store_of}
use Rattle.instantiate.proofs.lemmas.Objects.{fault-passed, few_pages-valid, objects-made, objects-no_elements, objects-no_globals}
use Rattle.instantiate.proofs.objects.new_objects.Goals as goal

pub returns-in_err-globals-clause-none : goal.returns-in_err-globals-clause-none
returns-in_err-globals-clause-none c =
    let store = store_of c.args.store.now in
    let wanted = c.args.loaded.now.value.source in
    let instance = module_instance (lists_of c.args.addresses.now) wanted in
    let passed = err_from_is_err_and c.from_residual.result c.from_residual.ensures.1 in
    let missing = rw (c.state-state.ensures.same, c.as_slice.ensures, c.module-wanted.ensures.same, c.as_ref.ensures) at (c.in_err-globals.ensures.none c.args.store.now.code wanted) in
    rw (passed.1, passed.2) (fault-passed c.in_err-globals.field-0.0 (map_all (new_global store instance) wanted.globals)
    (new_objects store instance wanted) (objects-no_globals store instance wanted) missing)

pub returns-in_err-elements-clause-none : goal.returns-in_err-elements-clause-none
returns-in_err-elements-clause-none c =
    let store = store_of c.args.store.now in
    let wanted = c.args.loaded.now.value.source in
    let instance = module_instance (lists_of c.args.addresses.now) wanted in
    let passed = err_from_is_err_and c.from_residual-in_err-elements.result c.from_residual-in_err-elements.ensures.1 in
    let missing = rw (c.state-state.ensures.same, c.as_slice-2.ensures, c.module-wanted.ensures.same, c.as_ref.ensures) at (c.in_err-elements.ensures.none c.args.store.now.code wanted) in
    rw (passed.1, passed.2) (fault-passed c.in_err-elements.field-0.0 (map_all (new_elements store instance) wanted.elements)
    (new_objects store instance wanted) (objects-no_elements store instance wanted) missing)

pub new_memories-requires : goal.new_memories-requires
new_memories-requires c =
    rw (c.as_slice-4.ensures, c.module-wanted.ensures.same, c.as_ref.ensures) (few_pages-valid c.args.loaded.now.value.source (rw c.as_ref.ensures at c.module-wanted.ensures.valid))

pub returns-clause-values : goal.returns-clause-values
returns-clause-values c =
    let store = store_of c.args.store.now in
    let wanted = c.args.loaded.now.value.source in
    let instance = module_instance (lists_of c.args.addresses.now) wanted in
    let globals = rw (c.state-state.ensures.same, c.as_slice.ensures, c.module-wanted.ensures.same, c.as_ref.ensures) at (c.in_ok-globals.ensures.values c.args.store.now.code wanted) in
    let elements = rw (c.state-state.ensures.same, c.as_slice-2.ensures, c.module-wanted.ensures.same, c.as_ref.ensures) at (c.in_ok-elements.ensures.values c.args.store.now.code wanted) in
    let tables = rw (c.as_slice-3.ensures, c.module-wanted.ensures.same, c.as_ref.ensures) at c.in_ok-new_tables.ensures in
    let memories = rw (c.as_slice-4.ensures, c.module-wanted.ensures.same, c.as_ref.ensures) at c.in_ok-new_memories.ensures in
    objects-made store instance wanted c.in_ok-new_tables.field-0.items c.in_ok-new_memories.field-0.items c.in_ok-globals.globals.items
    c.in_ok-elements.elements.items c.in_ok-new_datas.field-0.items tables memories globals elements c.in_ok-new_datas.ensures
