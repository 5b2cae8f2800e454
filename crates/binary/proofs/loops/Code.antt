-- Reading locals and functions, as a loop does.
use Rattle.std.proofs.Common.{List, [], arith, drop, get_or, length, refl, replicate, suc, sym, ℕ, ◌++◌, ◌+◌, ◌-◌, ◌<◌, ◌^◌, ◌∙◌, ◌∷◌, ◌≡◌, ◌≤◌}
use Rattle.std.specs.Prelude.{None, Option, Some}
use Rattle.std.proofs.Math.ListN.{drop_of_length-le}
use Rattle.std.proofs.lemmas.Bool.{le-ltb, lt-ltb}
use Rattle.std.proofs.lemmas.List.{drop_more}
use Rattle.core_types.specs.declared.module.Func.{Func}
use Rattle.core_types.specs.declared.types.ValType.{ValType}
use Rattle.core_types.specs.declared.op.Op.{Op}
use Rattle.core_types.specs.reading.Conventions.{Reading}
use Rattle.binary.specs.Errors.{OnRefused}
use Rattle.binary.specs.Sections.{code_at, codes_at, groups_at, local_group_at}
use Rattle.binary.specs.declared.errors.DecodeError.{DecodeError}
use Rattle.binary.proofs.Refusals.{OnRefused-map}

-- ---- groups of locals

module _ (locals : List ValType) (count i : ℕ) (bytes : List ℕ) (total : Option (List ValType × List ℕ)) (so_far : groups_at (count - i) locals bytes ≡ total) where
  pub groups_continue : (group : ℕ × ValType) (after : List ℕ) → i < count
      → local_group_at bytes ≡ Some (group, after) → length locals + group.0 < 2 ^ 32
      → groups_at (count - (i + 1)) (locals ++ replicate group.0 group.1) after ≡ total
  unfolding groups_at
  groups_continue group after more read_is fits =
      let left : count - i ≡ suc (count - (i + 1)) = omega arith in
      let turn : groups_at (count - i) locals bytes ≡ groups_at (count - (i + 1)) (locals ++ replicate group.0 group.1) after =
      rw (left, read_is, lt-ltb _ _ fits) refl in
      sym turn ∙ so_far

  pub groups_overflow : (group : ℕ × ValType) (after : List ℕ) → i < count
      → local_group_at bytes ≡ Some (group, after) → 2 ^ 32 ≤ length locals + group.0 → total ≡ None
  unfolding groups_at
  groups_overflow group after more read_is large =
      let left : count - i ≡ suc (count - (i + 1)) = omega arith in
      let turn : groups_at (count - i) locals bytes ≡ None = rw (left, read_is, le-ltb _ _ large) refl in
      sym so_far ∙ turn

  pub groups_fail : (error : DecodeError) → i < count → OnRefused error (local_group_at bytes ≡ None)
      → OnRefused error (total ≡ None)
  unfolding groups_at
  groups_fail error more refused =
      let left : count - i ≡ suc (count - (i + 1)) = omega arith in
      OnRefused-map error (local_group_at bytes ≡ None) (total ≡ None) (λ none.
      let turn : groups_at (count - i) locals bytes ≡ None = rw (left, none) refl in
      sym so_far ∙ turn) refused

  pub groups_end : count ≤ i → total ≡ Some (locals, bytes)
  unfolding groups_at
  groups_end over =
      let left : count - i ≡ 0 = omega arith in
      let turn : groups_at (count - i) locals bytes ≡ Some (locals, bytes) = rw left refl in
      sym so_far ∙ turn

-- ---- the functions of the code section

module _ (body_at : Reading (List Op)) (types : List ℕ) (i : ℕ) (funcs : List Func) (bytes : List ℕ) (total : Option (List Func × List ℕ)) (so_far : codes_at body_at (drop i types) funcs bytes ≡ total) where
  pub codes_continue : (f : Func) (after : List ℕ) → i < length types
      → code_at body_at (get_or types i 0) bytes ≡ Some (f, after)
      → codes_at body_at (drop (i + 1) types) (funcs ++ f ∷ []) after ≡ total
  unfolding codes_at
  codes_continue f after more read_is =
      let turn : codes_at body_at (drop i types) funcs bytes ≡ codes_at body_at (drop (i + 1) types) (funcs ++ f ∷ []) after =
      rw (drop_more types i 0 more, read_is) refl in
      sym turn ∙ so_far

  pub codes_fail : (error : DecodeError) → i < length types
      → OnRefused error (code_at body_at (get_or types i 0) bytes ≡ None) → OnRefused error (total ≡ None)
  unfolding codes_at
  codes_fail error more refused =
      OnRefused-map error (code_at body_at (get_or types i 0) bytes ≡ None) (total ≡ None) (λ none.
      let turn : codes_at body_at (drop i types) funcs bytes ≡ None = rw (drop_more types i 0 more, none) refl in
      sym so_far ∙ turn) refused

  pub codes_end : length types ≤ i → total ≡ Some (funcs, bytes)
  unfolding codes_at
  codes_end over =
      let turn : codes_at body_at (drop i types) funcs bytes ≡ Some (funcs, bytes) =
      rw (drop_of_length-le types over) refl in
      sym so_far ∙ turn
