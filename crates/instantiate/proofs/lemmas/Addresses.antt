-- Addresses, one by one.
use Rattle.std.proofs.Common.{◌≡◌, ℕ, ◌+◌, ◌<◌, ◌≤◌, List, [], ◌∷◌, ◌++◌, length, get_or, drop, sym, ap, ◌∙◌, append_assoc}
use Rattle.std.specs.Prelude.{Option, Some, None}
use Rattle.std.proofs.lemmas.List.{append-nil, at_drop_all, at_drop_more}
use Rattle.core_types.specs.declared.outcome.Extern.{Extern}
use Rattle.meaning.specs.execution.Modules.{before, consecutive, given_addresses}
use Rattle.store.proofs.lemmas.Positions.{consecutive-next}

-- ---- in a row

pub pushed-next : (first k : ℕ) (initial so_far after : List ℕ) → so_far ≡ initial ++ consecutive first k → after ≡ so_far ++ (first + k) ∷ [] → after ≡ initial ++ consecutive first (k + 1)
pushed-next first k initial so_far after had pushed =
    pushed ∙ ap (λ (row : List ℕ). row ++ (first + k) ∷ []) had ∙ append_assoc initial (consecutive first k) ((first + k) ∷ []) ∙ ap (λ (row : List ℕ). initial ++ row) (consecutive-next first k)

-- ---- for one kind of what is given

module _ (address_of : Extern → Option ℕ) (given : List Extern) (whole : List ℕ) where
  -- The addresses so far, followed by those of the rest, are all addresses.
  abbrev pub FoundSoFar : ℕ → List ℕ → Type 0
  FoundSoFar k found =
      found ++ given_addresses address_of (drop k given) ≡ whole

  rest-next : (k : ℕ) (d : Extern) (o : Option ℕ) → k < length given → address_of (get_or given k d) ≡ o
      → before o (given_addresses address_of (drop (k + 1) given)) ≡ given_addresses address_of (drop k given)
  rest-next k d o inside has = sym (at_drop_more (given_addresses address_of) given k d inside ∙ ap (λ (p : Option ℕ). before p (given_addresses address_of (drop (k + 1) given))) has)

  pub found-none : (k : ℕ) (d : Extern) (found : List ℕ) → k < length given → FoundSoFar k found → address_of (get_or given k d) ≡ None → FoundSoFar (k + 1) found
  found-none k d found inside so_far none =
      ap (λ (rest : List ℕ). found ++ rest) (rest-next k d None inside none) ∙ so_far

  pub found-some : (k : ℕ) (d : Extern) (found : List ℕ) (a : ℕ) → k < length given → FoundSoFar k found → address_of (get_or given k d) ≡ Some a → FoundSoFar (k + 1) (found ++ a ∷ [])
  found-some k d found a inside so_far has =
      append_assoc found (a ∷ []) (given_addresses address_of (drop (k + 1) given)) ∙ ap (λ (rest : List ℕ). found ++ rest) (rest-next k d (Some a) inside has) ∙ so_far

  pub found-end : (k : ℕ) (found : List ℕ) → length given ≤ k → FoundSoFar k found → found ≡ whole
  found-end k found past so_far =
      sym (append-nil found) ∙ ap (λ (rest : List ℕ). found ++ rest) (sym (at_drop_all (given_addresses address_of) given k past)) ∙ so_far
