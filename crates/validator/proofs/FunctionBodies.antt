-- A body that is typed in its context has the type of its function, and a body that is not typed does not.
use Rattle.std.proofs.Common.{◌≡◌, ◌<◌, [], List, ◌++◌, arith, length, map, refl, subst, sym, ◌∙◌}
use Rattle.std.proofs.lemmas.List.{length-map}
use Rattle.std.proofs.lemmas.Option.{slice_get_within}
use Rattle.std.specs.Prelude.{Bool, None, Some, slice_get}
use Rattle.core_types.specs.declared.module.Func.{Func}
use Rattle.core_types.specs.declared.module.Module.{Module}
use Rattle.core_types.specs.declared.op.Op.{Op}
use Rattle.core_types.specs.declared.types.FuncType.{FuncType}
use Rattle.core_types.specs.declared.types.ValType.{ValType}
use Rattle.meaning.specs.validation.Context.{Context}
use Rattle.meaning.specs.validation.Instructions.{HasType, known}
use Rattle.meaning.specs.validation.Modules.{body_context, function_indices, module_context, IsValidFunction, type_at}
use Rattle.validator.specs.declared.context.BodyContext.{BodyContext}
use Rattle.index_spaces.specs.declared.IndexSpaces.{IndexSpaces}
use Rattle.validator.specs.Completeness.{IsUntyped}
use Rattle.validator.specs.Contexts.{Describes, IsBodyOf}
use Rattle.index_spaces.specs.IndexSpaces.{AreIndexSpaces}
use Rattle.validator.specs.References.{HasMarks}
use Rattle.validator.specs.Soundness.{IsTyped}

-- The context in which the function is typed, before the label of its body.
abbrev outside : Module → FuncType → List ValType → Context
outside m ty locals = record (module_context m) { locals = ty.params ++ locals; results = Some ty.results }

module _ (m : Module) (s : IndexSpaces) (spaces : AreIndexSpaces m s) {marks : List Bool} (has_marks : HasMarks m marks) (f : Func) (ty : FuncType) (lent : BodyContext)
    (types_are : lent.types.now ≡ m.types) (elements_are : lent.elements.now ≡ m.elements) (datas_are : lent.datas ≡ length m.datas)
    (spaces_is : lent.spaces.now ≡ s) (declared_are : lent.declared.now ≡ marks) (locals_are : lent.locals ≡ ty.params ++ f.locals)
    (results_are : lent.results.now ≡ ty.results) where
  describes : Describes lent (outside m ty f.locals)
  describes = record {
    types = rw types_are refl;
    functions = rw (types_are, spaces_is, spaces.functions) refl;
    tables = rw (spaces_is, spaces.tables) refl;
    memories = rw (spaces_is, spaces.memories) refl;
    globals = rw (spaces_is, spaces.globals) refl;
    elements = rw elements_are refl;
    datas = rw datas_are refl;
    locals = sym locals_are;
    labels = refl;
    results = rw results_are refl;
    references = λ x set. has_marks.named x (rw declared_are at set);
    marks = λ x type found named.
        let inside = slice_get_within (map (type_at m.types) (function_indices m)) x type found in
        let there : x < length (function_indices m) = omega (arith, inside, length-map (function_indices m) (type_at m.types)) in
        rw declared_are (has_marks.set x there named);
  }

  pub function_valid : slice_get m.types f.ty ≡ Some ty → (ops : List Op) → ops ≡ f.body → IsTyped lent ops → IsValidFunction m f
  function_valid has_type ops body_is typed =
      let (body, written, leads) = typed.in_context (outside m ty f.locals) describes in
      record { ty = ty; has_type = has_type; body = body; written = sym body_is ∙ written; typed = subst (λ (results : List ValType). IsBodyOf (outside m ty f.locals) results body) results_are leads }

  pub function_invalid : slice_get m.types f.ty ≡ Some ty → (ops : List Op) → ops ≡ f.body → IsUntyped lent ops → ¬ IsValidFunction m f
  function_invalid has_type ops body_is untyped = λ valid.
      let both : Some valid.ty ≡ Some ty = sym valid.has_type ∙ has_type in
      let same : valid.ty ≡ ty = cc in
      untyped.in_context (outside m ty f.locals) describes valid.body (body_is ∙ valid.written)
      (rw results_are (subst (λ (t : FuncType). HasType (body_context m t f.locals) valid.body [] (known t.results)) same valid.typed))

pub untyped_function : (m : Module) (f : Func) → slice_get m.types f.ty ≡ None → ¬ IsValidFunction m f
untyped_function m f none = λ valid. let both : None ≡ Some valid.ty = sym none ∙ valid.has_type in absurd cc
