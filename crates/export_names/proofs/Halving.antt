-- A name is found by binary search: what is before the rest is less, and what is after it is greater.
use Rattle.std.proofs.Math.Nat.{eq-or-lt_of_le}
use Rattle.std.proofs.Common.{cond, inl, inr, ◌⊎◌, ◌≡◌, ◌≢◌, ℕ, zero, suc, ◌+◌, ◌<◌, ◌≤◌, true, false, List, [], ◌∷◌, length, get_or, refl, sym, ap, ◌∙◌, subst, arith}
use Rattle.std.proofs.lemmas.Bool.{cases_order, false_from_ne_true}
use Rattle.std.proofs.lemmas.Cmp.{nat_list_cmp_total, tied_itself}
use Rattle.std.proofs.lemmas.List.{get_or-map, length-map}
use Rattle.std.proofs.lemmas.List.Elements.{All-get_or, All-head, All-tail}
use Rattle.std.proofs.lemmas.List.FromFn.{get_or-range_with_len, length-range_with_len}
use Rattle.std.proofs.lemmas.List.Sorted.{Contains-permutation}
use Rattle.std.proofs.lemmas.Map.Keys.{Less-from_sorted}
use Rattle.std.proofs.lemmas.Slice.Eq.{bytes_eq-Decides}
use Rattle.std.specs.List.{All, Contains, find, range_with_len}
use Rattle.std.specs.Cmp.Lexicographic.{texts_ties}
use Rattle.std.specs.Ordering.{is_eq, ordering_reverse}
use Rattle.std.specs.Prelude.{bytes_eq, option_map, Some, None}
use Rattle.std.specs.declared.cmp.Ordering.{Ordering}
use Rattle.std.specs.declared.cmp.Ordering.TheVariants.{Less, Equal, Greater}
use Rattle.core_types.specs.declared.module.Export.{Export}
use Rattle.meaning.specs.validation.Modules.{NamesDiffer}
use Rattle.export_names.specs.Order.{IsNameOrder, names, names_at}
use Rattle.export_names.proofs.Sorting.{order, sorted_then}

-- ---- the rest of the search

pub record LiesBetween (exports : List Export) (indices : List ℕ) (name : List ℕ) (low high : ℕ) : Type 0 where
  pub rises : low ≤ high
  pub within : high ≤ length indices
  pub before : (i : ℕ) → i < low → order (get_or (names_at exports indices) i []) name ≡ Less
  pub after : (i : ℕ) → high ≤ i → i < length indices → order (get_or (names_at exports indices) i []) name ≡ Greater

flipped : (a b : List ℕ) (o : Ordering) → order a b ≡ o → order b a ≡ ordering_reverse o
flipped a b o is = nat_list_cmp_total.antisymm b a ∙ ap ordering_reverse is

none_found : (name : List ℕ) (es : List Export) → All (λ (e : Export). bytes_eq e.name name ≡ false) es → find (λ (e : Export). bytes_eq e.name name) es ≡ None
none_found name [] unlike = refl
none_found name (e ∷ es) unlike =
    let here = All-head (λ (e : Export). bytes_eq e.name name ≡ false) e es unlike in
    ap (λ b. cond b (Some e) (find (λ (e : Export). bytes_eq e.name name) es)) here ∙ none_found name es (All-tail (λ (e : Export). bytes_eq e.name name ≡ false) e es unlike)

-- The only export of a name is found first.
pub found_first : (name : List ℕ) (es : List Export) (e : Export) → NamesDiffer es → Contains es e → bytes_eq e.name name ≡ true → find (λ (e : Export). bytes_eq e.name name) es ≡ Some e
found_first name [] e differ contained alike = absurd (omega (arith, contained.1))
found_first name (x ∷ xs) e differ (zero, within, is) alike =
    ap (λ (y : Export). find (λ (e : Export). bytes_eq e.name name) (y ∷ xs)) is ∙ ap (λ b. cond b (Some e) (find (λ (e : Export). bytes_eq e.name name) xs)) alike
found_first name (x ∷ xs) e differ (suc k, within, is) alike =
    let apart : e.name ≢ x.name = subst (λ (other : Export). other.name ≢ x.name) is (All-get_or (λ (other : Export). other.name ≢ x.name) xs k e (omega (arith, within)) differ.0) in
    let unlike : bytes_eq x.name name ≡ false = false_from_ne_true (bytes_eq x.name name) (λ same. apart ((bytes_eq-Decides e.name name).0 alike ∙ sym ((bytes_eq-Decides x.name name).0 same))) in
    ap (λ b. cond b (Some x) (find (λ (e : Export). bytes_eq e.name name) xs)) unlike ∙ found_first name xs e differ.1 (k, omega (arith, within), is) alike

below_or_from : (i low : ℕ) → (i < low) ⊎ (low ≤ i)
below_or_from i low = elim (cases_order i low) [ inl same ↦ inr (omega arith) | inr apart ↦ elim apart [ inl less ↦ inl less | inr more ↦ inr (omega arith) ] ]

less_differs : Less ≢ Equal
less_differs same = absurd cc

greater_differs : Greater ≢ Equal
greater_differs same = absurd cc

-- The result of `cmp` for a text is the same for texts that are equal to it.
pub compared : (a n name : List ℕ) (r o : Ordering) → r ≡ order a name → a ≡ n → r ≡ o → order n name ≡ o
compared a n name r o is same answer = ap (λ m. order m name) (sym same) ∙ sym is ∙ answer

pub equal_is_alike : (a n name : List ℕ) (r : Ordering) → r ≡ order a name → a ≡ n → r ≡ Equal → bytes_eq n name ≡ true
equal_is_alike a n name r is same answer = texts_ties n name ∙ ap is_eq (compared a n name r Equal is same answer)

-- The place of an export in the order.
place_of : (exports : List Export) (indices : List ℕ) → IsNameOrder exports indices → (k : ℕ) → k < length exports → (i : ℕ) × (i < length indices) × (get_or indices i k ≡ k)
place_of exports indices h k inside =
    Contains-permutation (range_with_len 0 (length exports)) indices k h.permutes
    (k, rw (length-range_with_len 0 (length exports)) inside, get_or-range_with_len 0 (length exports) k k inside ∙ omega arith)

name_there : (exports : List Export) (indices : List ℕ) → IsNameOrder exports indices → (i k : ℕ) (d : Export) → i < length indices
    → get_or indices i k ≡ k → k < length exports → get_or (names_at exports indices) i [] ≡ (get_or exports k d).name
name_there exports indices h i k d within is inside =
    let at : ℕ → List ℕ = λ j. get_or (names exports) j [] in
    get_or-map at indices i k [] within ∙ ap at is ∙ get_or-map (λ (e : Export). e.name) exports k d [] inside

module _ (exports : List Export) (indices : List ℕ) (name : List ℕ) (h : IsNameOrder exports indices) (differ : NamesDiffer exports) where
  abbrev names_there : List (List ℕ)
  names_there = names_at exports indices

  as_long : length names_there ≡ length indices
  as_long = length-map indices (λ k. get_or (names exports) k [])

  rise : (i j : ℕ) → i < j → j < length indices → order (get_or names_there i []) (get_or names_there j []) ≡ Less
  rise i j lt within = Less-from_sorted order names_there i j [] (sorted_then exports indices h differ) lt (rw as_long within)

  pub lies_behind : (low high middle : ℕ) → LiesBetween exports indices name low high → middle < high → order (get_or names_there middle []) name
      ≡ Less → LiesBetween exports indices name (middle + 1) high
  lies_behind low high middle so_far lt less = record {
    rises = omega arith;
    within = so_far.within;
    before = λ i below. elim (eq-or-lt_of_le (here i below)) [
      | inl same ↦ subst (λ j. order (get_or names_there j []) name ≡ Less) (sym same) less
      | inr earlier ↦ nat_list_cmp_total.trans
          (get_or names_there i []) (get_or names_there middle []) name (rise i middle earlier (omega (arith, so_far.within))) less
    ];
    after = so_far.after;
  }
    where
      here : (i : ℕ) → i < middle + 1 → i ≤ middle
      here i below = omega arith

  pub lies_before : (low high middle : ℕ) → LiesBetween exports indices name low high → low ≤ middle → middle < high
      → order (get_or names_there middle []) name ≡ Greater → LiesBetween exports indices name low middle
  lies_before low high middle so_far least lt greater = record {
    rises = least;
    within = omega (arith, so_far.within);
    before = so_far.before;
    after = λ i most within. elim (eq-or-lt_of_le most) [ inl same ↦ subst (λ j. order (get_or names_there j []) name ≡ Greater) same greater | inr later ↦ behind i later within ];
  }
    where
      behind : (i : ℕ) → middle < i → i < length indices → order (get_or names_there i []) name ≡ Greater
      behind i later within =
          let less = nat_list_cmp_total.trans name (get_or names_there middle []) (get_or names_there i [])
          (flipped (get_or names_there middle []) name Greater greater) (rise middle i later within) in
          flipped name (get_or names_there i []) Less less

  -- Nothing is left: no export has the name.
  pub none_there : (low high : ℕ) → LiesBetween exports indices name low high → high ≤ low → option_map (λ (e : Export). e.desc) (find (λ (e : Export). bytes_eq e.name name) exports) ≡ None
  none_there low high so_far empty = ap (option_map (λ (e : Export). e.desc)) (none_found name exports unlike)
    where
      apart : (i : ℕ) → i < length indices → order (get_or names_there i []) name ≢ Equal
      apart i within same = elim (below_or_from i low) [
        | inl earlier ↦ less_differs (sym (so_far.before i earlier) ∙ same)
        | inr later ↦ greater_differs
            (sym (so_far.after i (omega (arith, later)) within) ∙ same)
      ]

      unlike : All (λ (e : Export). bytes_eq e.name name ≡ false) exports
      unlike k d inside =
          let (i, within, is) = place_of exports indices h k inside in
          let there : get_or names_there i [] ≡ (get_or exports k d).name = name_there exports indices h i k d within is inside in
          false_from_ne_true (bytes_eq (get_or exports k d).name name)
          (λ same. apart i within (ap (λ n. order n name) (there ∙ (bytes_eq-Decides (get_or exports k d).name name).0 same) ∙ tied_itself
          nat_list_cmp_total name))
