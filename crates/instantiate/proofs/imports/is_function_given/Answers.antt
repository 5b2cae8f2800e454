use Rattle.std.proofs.Common.{ap, refl}
use Rattle.std.specs.Prelude.{option_map}
use Rattle.std.proofs.lemmas.Option.{slice_get_past, slice_get_read}
use Rattle.core_types.specs.declared.module.ImportDesc.TheVariants.{Func as FuncImport}
use Rattle.core_types.specs.declared.outcome.Extern.TheVariants.{Func as FuncValue}
use Rattle.core_types.specs.declared.types.ExternType.TheVariants.{Func}
use Rattle.core_types.specs.declared.types.FuncType.{FuncType}
use Rattle.meaning.specs.execution.Modules.{import_type}
use Rattle.meaning.specs.execution.Store.{FunctionInstance}
use Rattle.store.specs.Contents.{callee_function, store_of}
use Rattle.instantiate.proofs.lemmas.Imports.{is_given-by, not_given-unasked}
use Rattle.instantiate.proofs.imports.is_function_given.Goals as goal

pub returns-in-Some-Some : goal.returns-in-Some-Some
returns-in-Some-Some c =
    let there = rw c.code.ensures at c.in-Some-Some.ensures.found in
    let asked = rw c.as_slice.ensures at (slice_get_read c.as_slice.result.now _ c.args.x c.in-Some-Some.ty.now refl c.in-Some-Some.ensures'.lookup.3.0 c.in-Some-Some.ensures'.lookup.1) in
    is_given-by (store_of c.args.store.now) (FuncValue c.args.address) (import_type c.args.wanted.now (FuncImport c.args.x)) c.is_same.result
    (Func (callee_function c.in-Some-Some.callee).ty) (Func c.in-Some-Some.ty.now) (ap (option_map (λ (f : FunctionInstance). Func f.ty)) there)
    (ap (option_map (λ (t : FuncType). Func t)) asked) (rw c.ty.ensures at c.is_same.ensures)

pub returns-in_default : goal.returns-in_default
returns-in_default c =
    let none = rw c.as_slice.ensures at (slice_get_past c.as_slice.result.now c.args.x c.in_default.ensures'.lookup.3) in
    let refused = not_given-unasked (store_of c.args.store.now) (FuncValue c.args.address) (import_type c.args.wanted.now (FuncImport c.args.x)) (ap (option_map (λ (t : FuncType). Func t)) none) in
    (λ no. absurd cc, λ given. absurd (refused given))
