-- Calls of functions.
use Rattle.std.proofs.Common.{◌≡◌, ℕ, ◌≤◌, List, [], ◌++◌, true, length, map, take, drop, reverse, Option, Some, refl, arith, slice_get}
use Rattle.std.proofs.lemmas.List.{append-nil, length-append, length-reverse, reverse-reverse}
use Rattle.core_types.specs.declared.outcome.Val.{Val}
use Rattle.core_types.specs.declared.types.FuncType.{FuncType}
use Rattle.core_types.specs.declared.types.ValType.{ValType}
use Rattle.meaning.specs.structure.Bodies.{Body, Empty}
use Rattle.meaning.specs.execution.Instructions.{NotReady, call_function, call_host, call_implementation, enter_function, topmost}
use Rattle.meaning.specs.execution.Store.{Code, FunctionInstance, Implementation, InCode, InHost, Store}
use Rattle.meaning.specs.execution.Values.{default_of, type_of}
use Rattle.meaning.specs.soundness.Values.{ValuesHaveTypes}
use Rattle.meaning.specs.validation.Instructions.{known}
use Rattle.meaning.specs.validation.Types.{are_same_types}
use Rattle.meaning.proofs.lemmas.Layers.{if-at-most}
use Rattle.meaning.proofs.lemmas.SameTypes.{types_decided}
use Rattle.meaning.proofs.lemmas.Typing.{AllFit-same}
use Rattle.soundness.specs.Configurations.{IsGood}
use Rattle.soundness.specs.Places.{Place, RunsOn, inside_frame}
use Rattle.soundness.specs.Stores.{FunctionIsValid, ImplementationIsValid, StoreIsValid}
use Rattle.soundness.proofs.Values.{All-at, defaults-typed, types-of-values, values-joined, values-length, values-parts, values-reversed}

-- An empty body leads from results to the same.
pub empty-runs : (store : Store) (place : Place) (results : List ValType) → RunsOn store place Empty (reverse results ++ []) results
empty-runs store place results = rw (append-nil (reverse results), reverse-reverse results) (AllFit-same (known results))

module _ (store : Store) (valid : StoreIsValid store) (place : Place) (t : FuncType) (values : List Val) (below : List ValType)
    (typed : ValuesHaveTypes store values (reverse t.params ++ below)) where
  parts : ValuesHaveTypes store (take (length t.params) values) (reverse t.params) × ValuesHaveTypes store (drop (length t.params) values) below
  parts = rw (length-reverse t.params) at (values-parts store values (reverse t.params) below typed)

  pub enough : length t.params ≤ length values
  enough = omega (arith, values-length store values (reverse t.params ++ below) typed, length-append (reverse t.params) below, length-reverse t.params)

  pub arguments-typed : ValuesHaveTypes store (topmost t.params values) t.params
  arguments-typed = rw (reverse-reverse t.params) at (values-reversed store (take (length t.params) values) (reverse t.params) parts.0)

  module _ (rest : Body) (results : List ValType) (runs : RunsOn store place rest (reverse t.results ++ below) results) where
    frame-entered : (cost instance : ℕ) (code : Code) → ImplementationIsValid store t (InCode instance code) → IsGood store place results (enter_function cost store t instance code values rest)
    frame-entered cost instance code (there, body) = (
      refl,
      (
        below,
        t.results,
        t.params ++ code.locals,
        refl,
        parts.1,
        values-joined store (topmost t.params values) (map default_of code.locals) t.params code.locals arguments-typed (defaults-typed store code.locals),
        (
          [],
          t.results,
          t.results,
          refl,
          tt,
          ([], tt, body),
          empty-runs store (inside_frame (Some instance) (t.params ++ code.locals) t.results) t.results,
          empty-runs store (inside_frame (Some instance) (t.params ++ code.locals) t.results) t.results,
        ),
        runs,
      ),
    )

    host-called : (cost number : ℕ) (lent : Option ℕ) (address : ℕ) → slice_get store.functions address ≡ Some (record { ty = t; implementation = InHost number })
        → IsGood store place results (call_host cost number lent t values rest)
    host-called cost number lent address is =
        let same : are_same_types (map type_of (topmost t.params values)) t.params ≡ true =
        types_decided true (map type_of (topmost t.params values)) t.params (λ yes. types-of-values store (topmost t.params values) t.params arguments-typed, λ e. refl) in
        rw same (record {
          t = t;
          address = address;
          is = is;
          typed = arguments-typed;
          goes_on = λ answers answers_typed. (
            reverse t.results ++ below,
            values-joined store (reverse answers) (drop (length t.params) values) (reverse t.results) below (values-reversed store answers t.results answers_typed) parts.1,
            runs,
          );
        })

    implementation-called : (cost : ℕ) (lent : Option ℕ) (address : ℕ) (i : Implementation) → slice_get store.functions address ≡ Some (record { ty = t; implementation = i })
        → IsGood store place results (call_implementation cost store lent t i values rest)
    implementation-called cost lent address (InCode instance code) is = frame-entered cost instance code (All-at (FunctionIsValid store) store.functions address _ is valid.functions)
    implementation-called cost lent address (InHost number) is = host-called cost number lent address is

    pub function-called : (cost : ℕ) (lent : Option ℕ) (address : ℕ) (f : FunctionInstance) → f.ty ≡ t → slice_get store.functions address ≡ Some f
        → IsGood store place results (call_function cost store lent (Some f) values rest)
    function-called cost lent address f same is =
        let known_type : slice_get store.functions address ≡ Some (record { ty = t; implementation = f.implementation }) = rw same at is in
        rw (same, if-at-most (length t.params) (length values) (call_implementation cost store lent t f.implementation values rest) NotReady enough)
        (implementation-called cost lent address f.implementation known_type)
