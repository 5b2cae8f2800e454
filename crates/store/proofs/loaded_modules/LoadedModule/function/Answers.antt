use Rattle.std.proofs.Common.{◌≡◌, ◌<◌, length, slice_get, refl, ap, ◌∙◌, rules}
use Rattle.std.specs.Prelude.{Some}
use Rattle.std.proofs.lemmas.Option.{slice_get_read}
use Rattle.core_types.specs.declared.module.Module.{Module}
use Rattle.sidetable.specs.FlatModules.{module_signatures, operations_of}
use Rattle.store.proofs.lemmas.LoadedModules.{code-within, flat-at}
use Rattle.store.proofs.lemmas.Lookups.{body-written, type-within}
use Rattle.store.proofs.loaded_modules.LoadedModule.function.Goals as goal

-- The function and its type are those of the module.
func-there : (c : goal.After-index-flat) → slice_get c.self.inside.validated.funcs c.args.index ≡ Some c.index-as_slice-index.result
func-there c =
    let here = c.as_slice.ensures ∙ ap (λ (m : Module). m.funcs) c.module-module_read.ensures.same in
    let within : c.args.index < length c.as_slice.result.now = rw here (rw (← c.self.view_is) at c.requires) in
    rw here at (slice_get_read c.as_slice.result.now (length c.as_slice.result.now) c.args.index c.index-as_slice-index.result refl within c.index-as_slice-index.is)

type-there : (c : goal.After-index-flat) → slice_get c.self.inside.validated.types c.index-as_slice-index.result.ty ≡ Some c.index-as_slice-func.result
type-there c =
    let here = c.as_slice-2.ensures ∙ ap (λ (m : Module). m.types) c.module-module_read.ensures.same in
    let inside = type-within c.self.inside.validated c.args.index c.index-as_slice-index.result c.module-module_read.ensures.valid (func-there c) in
    let within : c.index-as_slice-index.result.ty < length c.as_slice-2.result.now = rw here inside in
    rw here at (slice_get_read c.as_slice-2.result.now (length c.as_slice-2.result.now) c.index-as_slice-index.result.ty c.index-as_slice-func.result refl within c.index-as_slice-func.is)

pub index-flat-requires : goal.index-flat-requires
index-flat-requires c =
    let inside = c.self.inside in
    let within = code-within (module_signatures inside.validated) (operations_of inside.flat) inside.validated.funcs inside.flat.functions.items
    c.args.index c.self.invariant.0.functions (rw (← c.self.view_is) at c.requires) in
    search (rules, within)

pub returns-clause-func : goal.returns-clause-func
returns-clause-func c = rw (← c.self.view_is) (func-there c)

pub returns-clause-ty : goal.returns-clause-ty
returns-clause-ty c = rw (← c.self.view_is) (type-there c)

pub returns-clause-flat : goal.returns-clause-flat
returns-clause-flat c =
    let inside = c.self.inside in
    let within = code-within (module_signatures inside.validated) (operations_of inside.flat) inside.validated.funcs inside.flat.functions.items
    c.args.index c.self.invariant.0.functions (rw (← c.self.view_is) at c.requires) in
    let there = slice_get_read inside.flat.functions.items (length inside.flat.functions.items) c.args.index c.index-flat.result.now refl within c.index-flat.ensures in
    rw (← c.self.view_is)
    (flat-at (module_signatures inside.validated) (operations_of inside.flat) inside.validated.funcs inside.flat.functions.items c.args.index
    c.index-as_slice-index.result _ c.self.invariant.0.functions (func-there c) there)

pub returns-clause-body : goal.returns-clause-body
returns-clause-body c = body-written c.self.inside.validated c.args.index c.index-as_slice-index.result c.module-module_read.ensures.valid (func-there c)
