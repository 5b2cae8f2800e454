use Rattle.std.proofs.Common.{◌≡◌, refl, subst, ap, ◌∙◌}
use Rattle.std.specs.Prelude.{None}
use Rattle.meaning.specs.execution.Modules.{new_instance, new_objects}
use Rattle.meaning.specs.execution.Store.{ModuleInstance}
use Rattle.std.proofs.lemmas.Result.{err_from_is_err_and}
use Rattle.store.specs.Contents.{lists_of, module_instance, store_of}
use Rattle.store.specs.Loaded.{LoadedContents}
use Rattle.instantiate.proofs.lemmas.Links.{objects-within}
use Rattle.soundness.proofs.Links.{objects-there}
use Rattle.instantiate.proofs.instantiation.allocate.Goals as goal

pub returns-in_err-addresses : goal.returns-in_err-addresses
returns-in_err-addresses c =
    let passed = err_from_is_err_and c.from_residual.result c.from_residual.ensures.1 in
    rw (passed.1, passed.2) (refl, refl)

pub returns-in_err-shared : goal.returns-in_err-shared
returns-in_err-shared c =
    let passed = err_from_is_err_and c.from_residual-in_err-shared.result c.from_residual-in_err-shared.ensures.1 in
    rw (passed.1, passed.2) (refl, refl)

pub append_module-requires-clause-within : goal.append_module-requires-clause-within
append_module-requires-clause-within c =
    let m = c.args.loaded.now.value.source in
    objects-within (store_of c.args.store.now) (module_instance (lists_of c.in_ok-addresses.addresses) m) m c.in-Ok.objects
    c.args.store.now.state.bounds c.in-Ok.ensures.values c.requires.limits.few_entries c.requires.limits.few_pages

pub returns-in_err-append_module : goal.returns-in_err-append_module
returns-in_err-append_module c =
    let passed = err_from_is_err_and c.from_residual-in_err-append_module.result c.from_residual-in_err-append_module.ensures.1 in
    rw (passed.1, passed.2) (refl, c.in_err-append_module.ensures.unchanged)

pub unreachable-requires : goal.unreachable-requires
unreachable-requires c =
    let m = c.args.loaded.now.value.source in
    let store = store_of c.args.store.now in
    let module_is = c.module.ensures.same ∙ ap (λ (l : LoadedContents). l.source) c.as_ref.ensures in
    let is : module_instance (lists_of c.in_ok-addresses.addresses) m ≡ new_instance store m c.args.given.now = rw module_is at c.in_ok-addresses.ensures in
    let none = rw c.in-Err-NoValue.field-0-is at c.in-Err-NoValue.ensures.none in
    objects-there store m c.args.given.now c.state.ensures.valid c.requires.linkable (subst (λ (i : ModuleInstance). new_objects store i m ≡ None) is none)
