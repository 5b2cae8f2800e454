-- Exports by their names and their indices. A sort of these is an order of the names.
use Rattle.std.proofs.Common.{◌≡◌, ℕ, zero, suc, ◌+◌, ◌<◌, false, List, [], ◌∷◌, ◌++◌, length, get_or, map, refl, sym, ap, ◌∙◌, subst, add-one, arith}
use Rattle.std.proofs.lemmas.List.{get_or-map, length-map, map_push}
use Rattle.std.proofs.lemmas.List.Elements.{All-head, All-push, All-tail}
use Rattle.std.proofs.lemmas.List.Sorted.{All-permutation, IsPermutation-map}
use Rattle.std.specs.Borrow.{Bor}
use Rattle.std.specs.Cmp.Lexicographic.{slice_cmp}
use Rattle.std.specs.List.{range_with_len}
use Rattle.std.specs.List.Sorted.{IsPermutation, IsSorted}
use Rattle.std.specs.Ordering.{is_lt, nat_cmp, ordering_then}
use Rattle.std.specs.declared.cmp.Ordering.{Ordering}
use Rattle.std.specs.declared.cmp.Ordering.TheVariants.{Less, Equal, Greater}
use Rattle.core_types.specs.declared.module.Export.{Export}
use Rattle.export_names.specs.Order.{AreNumbered, Ascend, HaveNames, indices_of, IsNameOrder, names, names_at, Numbered}

-- ---- one more export

range_more : (a n : ℕ) → range_with_len a (suc n) ≡ range_with_len a n ++ (a + n) ∷ []
range_more a zero = ap (λ x. x ∷ []) (omega arith)
range_more a (suc n) =
    let more = range_more (a + 1) n in
    let last : (a + 1) + n ≡ a + suc n = omega arith in
    ap (λ xs. a ∷ xs) more ∙ ap (λ x. a ∷ (range_with_len (a + 1) n ++ x ∷ [])) last

module _ (exports : List Export) (found then : Numbered) (i : ℕ) (name : Bor (List ℕ)) (pushed : then ≡ found ++ (name, i) ∷ []) where
  pub indices_more : indices_of found ≡ range_with_len 0 i → indices_of then ≡ range_with_len 0 (i + 1)
  indices_more so_far =
      ap indices_of pushed ∙ map_push (λ (p : Bor (List ℕ) × ℕ). p.1) found (name, i) ∙ ap (λ xs. xs ++ i ∷ []) so_far ∙ sym
      (ap (range_with_len 0) (add-one i) ∙ range_more 0 i ∙ ap (λ x. range_with_len 0 i ++ x ∷ []) (omega arith))

  pub names_more : (e : Export) → i < length exports → name.now ≡ (get_or exports i e).name → HaveNames exports found → HaveNames exports then
  names_more e within named so_far =
      let read : name.now ≡ get_or (names exports) i [] = named ∙ sym (get_or-map (λ (x : Export). x.name) exports i e [] within) in
      subst (HaveNames exports) (sym pushed) (All-push (λ (p : Bor (List ℕ) × ℕ). p.0.now ≡ get_or (names exports) p.1 []) found (name, i) so_far read)

-- ---- the sort

abbrev pair_cmp : Bor (List ℕ) × ℕ → Bor (List ℕ) × ℕ → Ordering
pair_cmp x y = ordering_then (slice_cmp nat_cmp x.0.now y.0.now) (nat_cmp x.1 y.1)

first_not_less : (o p : Ordering) → is_lt (ordering_then o p) ≡ false → is_lt o ≡ false
first_not_less Less p h = h
first_not_less Equal p h = refl
first_not_less Greater p h = refl

abbrev names_of : Numbered → List (List ℕ)
names_of found = map (λ (p : Bor (List ℕ) × ℕ). p.0.now) found

names_agree : (exports : List Export) (found : Numbered) → HaveNames exports found → names_at exports (indices_of found) ≡ names_of found
names_agree exports [] named = refl
names_agree exports (p ∷ ps) named =
    let here = All-head (λ (p : Bor (List ℕ) × ℕ). p.0.now ≡ get_or (names exports) p.1 []) p ps named in
    let others = names_agree exports ps (All-tail (λ (p : Bor (List ℕ) × ℕ). p.0.now ≡ get_or (names exports) p.1 []) p ps named) in
    ap (λ n. n ∷ names_at exports (indices_of ps)) (sym here) ∙ ap (λ ns. p.0.now ∷ ns) others

names_ascend : (found : Numbered) → IsSorted pair_cmp found → Ascend (names_of found)
names_ascend [] sorted k d low high = absurd (omega arith)
names_ascend (p ∷ ps) sorted k d low high =
    let f : Bor (List ℕ) × ℕ → List ℕ = λ p. p.0.now in
    let within : k + 1 < length (p ∷ ps) = rw (length-map (p ∷ ps) f) at high in
    let apart : is_lt (slice_cmp nat_cmp (get_or (p ∷ ps) (k + 1) p).0.now (get_or (p ∷ ps) k p).0.now) ≡ false = first_not_less _ _ (sorted k p low within) in
    rw (get_or-map f (p ∷ ps) (k + 1) p d within, get_or-map f (p ∷ ps) k p d (omega (arith, within))) apart

pub sort_orders : (exports : List Export) (found sorted : Numbered) → AreNumbered exports found → IsPermutation found sorted → IsSorted pair_cmp sorted → IsNameOrder exports (indices_of sorted)
sort_orders exports found sorted numbered permutation in_order =
    let named = All-permutation (λ (p : Bor (List ℕ) × ℕ). p.0.now ≡ get_or (names exports) p.1 []) found sorted permutation numbered.named in
    record {
      permutes = subst (λ is. IsPermutation is (indices_of sorted)) numbered.indices (IsPermutation-map (λ (p : Bor (List ℕ) × ℕ). p.1) found sorted permutation);
      ascends = subst Ascend (sym (names_agree exports sorted named)) (names_ascend sorted in_order);
    }
