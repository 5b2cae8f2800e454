-- Instructions on typed values: each step is good.
use Rattle.std.proofs.Common.{◌≡◌, ℕ, zero, suc, List, [], ◌∷◌, ◌++◌, reverse, Some, ap, subst, sym, ◌∙◌, append_assoc, get_or, slice_get, inl, inr}
use Rattle.std.proofs.lemmas.List.{get_or_past, map-append, reverse-append, reverse-reverse}
use Rattle.std.proofs.lemmas.Option.{slice_get_cases}
use Rattle.core_types.specs.declared.op.BranchTable.{BranchTable}
use Rattle.core_types.specs.declared.outcome.Val.{Val}
use Rattle.core_types.specs.declared.outcome.Val.TheVariants.{I32}
use Rattle.core_types.specs.declared.types.OperandType.{OperandType}
use Rattle.core_types.specs.declared.types.OperandType.TheVariants.{Known}
use Rattle.core_types.specs.declared.types.ValType.{ValType}
use Rattle.core_types.specs.declared.types.ValType.TheVariants as ty
use Rattle.meaning.specs.structure.Bodies.{Body}
use Rattle.meaning.specs.execution.Configurations.{Frame}
use Rattle.meaning.specs.execution.Effects.{Effect, Done, Grown, Fails, Lacks}
use Rattle.meaning.specs.execution.Instructions.{branch_by_table, branch_if, continue_after}
use Rattle.meaning.specs.execution.Store.{Store}
use Rattle.meaning.specs.soundness.Values.{ValuesHaveTypes}
use Rattle.meaning.specs.validation.Instructions.{FitsLabel, TakesAndGives, HasType, branch_table_rule, known}
use Rattle.soundness.specs.Configurations.{FrameHasPlace, IsGood}
use Rattle.soundness.specs.Places.{Place, RunsOn, context_at}
use Rattle.soundness.specs.Stores.{StoreIsValid}
use Rattle.soundness.proofs.Effects.{EffectIsGood, Follows-same}
use Rattle.soundness.proofs.Extension.{RunsOn-extended}
use Rattle.soundness.proofs.Locals.{Works}
use Rattle.soundness.proofs.Operands.{i32-on-top, known-fits, known-same, known-parts, operands-on-top, taken}

-- ---- types on top

module _ (stack : List ValType) (operands results between : List OperandType) (frame : TakesAndGives operands results (known (reverse stack)) between) where
  -- Types that an instruction names above others are on top.
  pub types-on-top : (below : List OperandType) (types : List ValType) → operands ≡ below ++ known types → (under : List ValType) × (stack ≡ reverse types ++ under)
  types-on-top below types is =
      let (bs, gs, parts, operands_are, after) = taken operands results (reverse stack) between frame in
      let (low, top, split, below_is, top_is) = known-parts gs below (known types) (sym operands_are ∙ is) in
      let same : types ≡ top = known-same types top top_is in (
        reverse (bs ++ low),
        sym (reverse-reverse stack)
            ∙ ap (λ (z : List ValType). reverse z) (parts ∙ ap (λ (z : List ValType). bs ++ z) split ∙ sym (append_assoc bs low top))
            ∙ reverse-append (bs ++ low) top ∙ ap (λ (z : List ValType). reverse z ++ reverse (bs ++ low)) (sym same),
      )

  -- Operands between others and an i32 are known.
  pub carried-known : (below carried : List OperandType) → operands ≡ below ++ (carried ++ Known ty.I32 ∷ []) → (types : List ValType) × (carried ≡ known types)
  carried-known below carried is =
      let (bs, gs, parts, operands_are, after) = taken operands results (reverse stack) between frame in
      let (low, top, split, below_is, top_is) = known-parts gs below (carried ++ Known ty.I32 ∷ []) (sym operands_are ∙ is) in
      let (types, last, split', carried_is, last_is) = known-parts top carried (Known ty.I32 ∷ []) (sym top_is) in
      (types, carried_is)

module _ (store : Store) (place : Place) (frame : Frame) where
  -- ---- effects

  module _ (valid : StoreIsValid store) (own : FrameHasPlace store frame place) (rest : Body) (results : List ValType) where
    goes-on : (stack : List ValType) (e : Effect) → EffectIsGood store place stack e → RunsOn store place rest stack results → IsGood store place results (continue_after frame e rest)
    goes-on stack (Done cost new locals values) (more, new_valid, locals_typed, typed) runs =
        (more, new_valid, (own.0, locals_typed), (stack, typed, RunsOn-extended store new valid more.extends place rest stack results runs))
    goes-on stack (Grown cost new locals values) (more, new_valid, locals_typed, typed) runs =
        (more, new_valid, (own.0, locals_typed), (stack, typed, RunsOn-extended store new valid more.extends place rest stack results runs))
    goes-on stack (Fails trap) good runs = tt
    goes-on stack Lacks good runs = absurd good

    -- An instruction that works has a good step.
    pub does : (e : List Val → Effect) (values : List Val) (stack : List ValType) (operands given between : List OperandType) → ValuesHaveTypes store values stack
        → Works store place operands given e → TakesAndGives operands given (known (reverse stack)) between → HasType (context_at store place) rest between (known results)
        → IsGood store place results (continue_after frame (e values) rest)
    does e values stack operands given between typed works frames runs =
        let (bs, gs, parts, operands_are, after) = taken operands given (reverse stack) between frames in
        let (s, type, works_as) = works gs operands_are in
        let (below, stack_is, between_is) = operands-on-top stack s operands given between type frames in
        goes-on (reverse s.results ++ below) (e values) (works_as values below (rw stack_is at typed)) (rw between_is at runs)

  -- ---- branches

  module _ (rest : Body) (results : List ValType) (values : List Val) (stack : List ValType) (typed : ValuesHaveTypes store values stack) where
    pub branches-if : (valid : StoreIsValid store) (own : FrameHasPlace store frame place) (label : ℕ) (types : List ValType) → slice_get place.labels label ≡ Some types
        → (below : List ValType) → stack ≡ reverse (types ++ ty.I32 ∷ []) ++ below → RunsOn store place rest (reverse types ++ below) results
        → IsGood store place results (branch_if store frame label values rest)
    branches-if valid own label types is below stack_is runs =
        let on_top : ValuesHaveTypes store values (ty.I32 ∷ reverse types ++ below) = rw (reverse-append types (ty.I32 ∷ [])) at (rw stack_is at typed) in
        let (n, others, top, fits, left) = i32-on-top store values (reverse types ++ below) on_top in
        rw top (by n others left)
      where
        by : (n : ℕ) (others : List Val) → ValuesHaveTypes store others (reverse types ++ below) → IsGood store place results (branch_if store frame label (I32 n ∷ others) rest)
        by zero others left = (Follows-same store, valid, own, (reverse types ++ below, left, runs))
        by (suc n) others left = (types, is, (below, left))

    -- The label that the topmost i32 selects carries the types below it.
    branches-from : (table : BranchTable) (types under : List ValType) → stack ≡ ty.I32 ∷ reverse types ++ under
        → ((n : ℕ) → FitsLabel (context_at store place) (known types) (get_or table.labels n table.default)) → IsGood store place results (branch_by_table table values)
    branches-from table types under stack_is fitting =
        let (n, others, top, fits, left) = i32-on-top store values (reverse types ++ under) (rw stack_is at typed) in
        rw top (by n others left (fitting n))
      where
        by : (n : ℕ) (others : List Val) → ValuesHaveTypes store others (reverse types ++ under) → FitsLabel (context_at store place) (known types) (get_or table.labels n table.default)
            → IsGood store place results (branch_by_table table (I32 n ∷ others))
        by n others left (label_types, is, label_fits) =
            let same : label_types ≡ types = known-same label_types types (known-fits types (known label_types) label_fits) in
            (label_types, is, (under, subst (λ (z : List ValType). ValuesHaveTypes store others (reverse z ++ under)) (sym same) left))

    pub branches-by-table : (table : BranchTable) (operands given between : List OperandType) → branch_table_rule (context_at store place) table operands
        → TakesAndGives operands given (known (reverse stack)) between → IsGood store place results (branch_by_table table values)
    branches-by-table table operands given between (below, carried, operands_are, listed, default) frames =
        let (types, carried_is) = carried-known stack operands given between frames below carried operands_are in
        let together : carried ++ Known ty.I32 ∷ [] ≡ known (types ++ ty.I32 ∷ []) = ap (λ (z : List OperandType). z ++ Known ty.I32 ∷ []) carried_is ∙ sym (map-append Known types (ty.I32 ∷ [])) in
        let (under, stack_is) = types-on-top stack operands given between frames below (types ++ ty.I32 ∷ []) (operands_are ∙ ap (λ (z : List OperandType). below ++ z) together) in
        branches-from table types under (stack_is ∙ ap (λ (z : List ValType). z ++ under) (reverse-append types (ty.I32 ∷ [])))
        (λ n. subst (λ (z : List OperandType). FitsLabel (context_at store place) z (get_or table.labels n table.default)) carried_is (fitting n))
      where
        fitting : (n : ℕ) → FitsLabel (context_at store place) carried (get_or table.labels n table.default)
        fitting n = elim (slice_get_cases table.labels n).1 [
          | inl w ↦ listed n table.default w.1
          | inr w ↦ rw (get_or_past table.labels n table.default w.0) default
        ]
