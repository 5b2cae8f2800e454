-- Names in order. If they differ, each is less than those after it.
use Rattle.std.proofs.Math.Nat.{eq-or-lt_of_le}
use Rattle.std.proofs.Common.{inl, inr, ◌≡◌, ◌≢◌, ℕ, ◌+◌, ◌-◌, ◌<◌, ◌≤◌, Bool, true, false, List, [], ◌∷◌, length, get_or, refl, sym, ap, ◌∙◌, subst, arith}
use Rattle.std.proofs.lemmas.Bool.{true≢false, false_from_ne_true}
use Rattle.std.proofs.lemmas.Cmp.{nat_list_cmp_total}
use Rattle.std.proofs.lemmas.List.{get_or-map, length-map}
use Rattle.std.proofs.lemmas.List.Elements.{All-cons, All-get_or, All-head, All-nil, All-tail}
use Rattle.std.proofs.lemmas.List.FromFn.{fill_by_all, get_or-range_with_len, length-range_with_len}
use Rattle.std.proofs.lemmas.List.Sorted.{All-permutation, IsPermutation-map, IsPermutation-sym}
use Rattle.std.proofs.lemmas.Map.Keys.{apart_from_distinct, IsDistinct-from_sorted, IsDistinct-IsPermutation, sorted_from_all_adjacent}
use Rattle.std.proofs.lemmas.Slice.Eq.{bytes_eq-Decides}
use Rattle.std.specs.Cmp.Lexicographic.{pointwise, slice_cmp, texts_ties}
use Rattle.std.specs.List.{All, AllByRecursion, IsDistinct, range_with_len}
use Rattle.std.specs.List.Sorted.{IsPermutation, IsStrictlySortedBy}
use Rattle.std.specs.Ordering.{eq_by_cmp, is_eq, is_lt, nat_cmp, ordering_reverse}
use Rattle.std.specs.Prelude.{nat_eq}
use Rattle.std.specs.declared.cmp.Ordering.{Ordering}
use Rattle.std.specs.declared.cmp.Ordering.TheVariants.{Less, Equal, Greater}
use Rattle.core_types.specs.declared.module.Export.{Export}
use Rattle.meaning.specs.validation.Modules.{NamesDiffer}
use Rattle.export_names.specs.Order.{IsNameOrder, names, names_at}

-- ---- the order of texts

abbrev pub order : List ℕ → List ℕ → Ordering
order = slice_cmp nat_cmp

abbrev pub alike : List ℕ → List ℕ → Bool
alike = eq_by_cmp order

pub alike_is : (a b : List ℕ) → alike a b ≡ true → a ≡ b
alike_is a b h = (bytes_eq-Decides a b).0 (texts_ties a b ∙ h)

pub is_alike : (a b : List ℕ) → a ≡ b → alike a b ≡ true
is_alike a b same = sym (texts_ties a b) ∙ (bytes_eq-Decides a b).1 same

-- The result of `==` for two texts is the same for texts that are equal to them.
pub told_apart : (a b m n : List ℕ) (r : Bool) → r ≡ pointwise nat_eq a b → a ≡ m → b ≡ n → alike m n ≡ r
told_apart a b m n r is first second = sym (is ∙ texts_ties a b ∙ ap (λ x. alike x b) first ∙ ap (λ x. alike m x) second)

by_cases : (o : Ordering) → is_lt (ordering_reverse o) ≡ false → is_eq o ≡ false → o ≡ Less
by_cases Less up apart = refl
by_cases Equal up apart = absurd (true≢false apart)
by_cases Greater up apart = absurd (true≢false up)

-- A text that is not greater than another, and differs from it, is less.
pub is_less : (a b : List ℕ) → is_lt (order b a) ≡ false → alike a b ≡ false → order a b ≡ Less
is_less a b up apart =
    let back : order b a ≡ ordering_reverse (order a b) = nat_list_cmp_total.antisymm b a in
    by_cases (order a b) (ap is_lt (sym back) ∙ up) apart

-- Each text below a place differs from the next.
abbrev pub AreApartBelow : List (List ℕ) → ℕ → Type 0
AreApartBelow ns place = (k : ℕ) → k + 1 < place → alike (get_or ns k []) (get_or ns (k + 1) []) ≡ false

pub one_more_apart : (ns : List (List ℕ)) (place : ℕ) → 1 ≤ place → AreApartBelow ns place → alike (get_or ns (place - 1) []) (get_or ns place []) ≡ false → AreApartBelow ns (place + 1)
one_more_apart ns place some so_far apart k lt =
    elim (eq-or-lt_of_le below) [ inl same ↦ last same | inr less ↦ so_far k less ]
  where
    below : k + 1 ≤ place
    below = omega arith

    last : k + 1 ≡ place → alike (get_or ns k []) (get_or ns (k + 1) []) ≡ false
    last same =
        let there = subst (λ p. alike (get_or ns (p - 1) []) (get_or ns p []) ≡ false) (sym same) apart in
        let back : (k + 1) - 1 ≡ k = omega arith in
        subst (λ q. alike (get_or ns q []) (get_or ns (k + 1) []) ≡ false) back there

-- ---- names that differ are distinct

apart_from_all : (n : List ℕ) (es : List Export) → All (λ (e : Export). e.name ≢ n) es → AllByRecursion (λ m. alike n m ≡ false) (names es)
apart_from_all n [] apart = tt
apart_from_all n (e ∷ es) apart =
    let here = All-head (λ (e : Export). e.name ≢ n) e es apart in
    (false_from_ne_true (alike n e.name) (λ same. here (sym (alike_is n e.name same))), apart_from_all n es (All-tail (λ (e : Export). e.name ≢ n) e es apart))

all_from_apart : (n : List ℕ) (es : List Export) → AllByRecursion (λ m. alike n m ≡ false) (names es) → All (λ (e : Export). e.name ≢ n) es
all_from_apart n [] apart = All-nil (λ (e : Export). e.name ≢ n)
all_from_apart n (e ∷ es) apart =
    All-cons (λ (e : Export). e.name ≢ n) e es (λ same. true≢false (sym (is_alike n e.name (sym same)) ∙ apart.0)) (all_from_apart n es apart.1)

distinct_from_differ : (es : List Export) → NamesDiffer es → IsDistinct alike (names es)
unfolding IsDistinct
distinct_from_differ [] differ = tt
distinct_from_differ (e ∷ es) differ = (apart_from_all e.name es differ.0, distinct_from_differ es differ.1)

differ_from_distinct : (es : List Export) → IsDistinct alike (names es) → NamesDiffer es
unfolding IsDistinct
differ_from_distinct [] distinct = tt
differ_from_distinct (e ∷ es) distinct = (all_from_apart e.name es distinct.0, differ_from_distinct es distinct.1)

alike_flips : (a b : List ℕ) → alike a b ≡ alike b a
alike_flips a b = by (order a b) (order b a) (nat_list_cmp_total.antisymm a b)
  where
    by : (o p : Ordering) → o ≡ ordering_reverse p → is_eq o ≡ is_eq p
    by o Less same = ap is_eq same
    by o Equal same = ap is_eq same
    by o Greater same = ap is_eq same

-- ---- the names in an order

module _ (exports : List Export) (indices : List ℕ) (h : IsNameOrder exports indices) where
  pub index_within : (i d : ℕ) → i < length indices → get_or indices i d < length exports
  index_within i d within =
      let low = All-permutation (λ x. x < length exports) (range_with_len 0 (length exports)) indices h.permutes all in
      All-get_or (λ x. x < length exports) indices i d within low
    where
      all : All (λ x. x < length exports) (range_with_len 0 (length exports))
      all k d within =
          let below : k < length exports = rw (length-range_with_len 0 (length exports)) at within in
          rw (get_or-range_with_len 0 (length exports) k d below) (omega arith)

  moved : IsPermutation (names exports) (names_at exports indices)
  moved =
      let at : ℕ → List ℕ = λ k. get_or (names exports) k [] in
      let whole : names exports ≡ names_at exports (range_with_len 0 (length exports)) = fill_by_all at (names exports) (length exports) []
      (length-map exports (λ (e : Export). e.name)) (λ k within. refl) in
      subst (λ ns. IsPermutation ns (names_at exports indices)) (sym whole) (IsPermutation-map at (range_with_len 0 (length exports)) indices h.permutes)

  distinct_then : NamesDiffer exports → IsDistinct alike (names_at exports indices)
  distinct_then differ = IsDistinct-IsPermutation alike alike_flips _ _ moved (distinct_from_differ exports differ)

  differ_from_sorted : IsStrictlySortedBy order (names_at exports indices) → NamesDiffer exports
  differ_from_sorted sorted =
      differ_from_distinct exports (IsDistinct-IsPermutation alike alike_flips _ _ (IsPermutation-sym _ _ moved) (IsDistinct-from_sorted order _ sorted))

  as_long : length (names_at exports indices) ≡ length indices
  as_long = length-map indices (λ k. get_or (names exports) k [])

  pub names_apart : (i j : ℕ) → i < j → j < length indices → NamesDiffer exports → alike (get_or (names_at exports indices) i []) (get_or (names_at exports indices) j []) ≡ false
  names_apart i j lt within differ = apart_from_distinct alike (names_at exports indices) i j [] (distinct_then differ) lt (rw as_long within)

  next_is_less : (k : ℕ) → k + 1 < length (names_at exports indices) → alike (get_or (names_at exports indices) k []) (get_or (names_at exports indices) (k + 1) []) ≡ false
      → order (get_or (names_at exports indices) k []) (get_or (names_at exports indices) (k + 1) []) ≡ Less
  next_is_less k within apart = is_less (get_or (names_at exports indices) k []) (get_or (names_at exports indices) (k + 1) []) (h.ascends k [] (omega arith) within) apart

  pub sorted_then : NamesDiffer exports → IsStrictlySortedBy order (names_at exports indices)
  sorted_then differ =
      sorted_from_all_adjacent nat_list_cmp_total (names_at exports indices) [] (λ k within. next_is_less k within (names_apart k (k + 1) (omega arith) (rw as_long at within) differ))

  pub differ_from_neighbours : ((k : ℕ) → k + 1 < length indices → alike (get_or (names_at exports indices) k []) (get_or (names_at exports indices) (k + 1) []) ≡ false) → NamesDiffer exports
  differ_from_neighbours apart =
      differ_from_sorted (sorted_from_all_adjacent nat_list_cmp_total (names_at exports indices) [] (λ k within. next_is_less k within (apart k (rw as_long at within))))

  -- The name at a place is that of the export at this place.
  pub name_at : (place : ℕ) (e : Export) → place < length indices → e ≡ get_or exports (get_or indices place 0) e → e.name ≡ get_or (names_at exports indices) place []
  name_at place e within is =
      let at : ℕ → List ℕ = λ k. get_or (names exports) k [] in
      let read : at (get_or indices place 0)
      ≡ e.name = get_or-map (λ (x : Export). x.name) exports (get_or indices place 0) e [] (index_within place 0 within) ∙ ap
      (λ (x : Export). x.name) (sym is) in
      sym (get_or-map at indices place 0 [] within ∙ read)
