-- What was shown leads on to the whole.
use Rattle.std.proofs.Common.{◌≡◌, ℕ, ◌+◌, ◌<◌, ◌≤◌, List, [], ◌++◌, ◌∷◌, append_assoc, length, drop, get_or, ap, refl, subst, sym, ◌∙◌}
use Rattle.std.proofs.lemmas.List.{drop_all, drop_more}
use Rattle.validator.specs.Visiting.{InTurn}

module _ {S A : Type 0} (Leads : S → A → S → Type 0) where
  -- Wherever what is left leads, the whole leads.
  abbrev pub LeadsOn : S → List A → S → List A → Type 0
  LeadsOn start all here left = (to : S) → InTurn Leads here left to → InTurn Leads start all to

  pub nothing_shown : (start : S) (all : List A) → LeadsOn start all start all
  nothing_shown start all to turn = turn

  pub next_shown : (start here next : S) (all left others : List A) (x : A) → left ≡ x ∷ others → Leads here x next → LeadsOn start all here left → LeadsOn start all next others
  next_shown start here next all left others x is leads on to turn = on to (rw is (next, leads, turn))

  -- The same, behind those that were shown.
  pub last_shown : (start here next : S) (shown others : List A) (x : A) → Leads here x next → LeadsOn start (shown ++ x ∷ others) here (x ∷ others)
      → LeadsOn start ((shown ++ x ∷ []) ++ others) next others
  last_shown start here next shown others x leads on =
      subst (λ (all : List A). LeadsOn start all next others) (sym (append_assoc shown (x ∷ []) others)) (next_shown start here next (shown ++ x ∷ others) (x ∷ others) others x refl leads on)

  pub all_shown : (start here : S) (all left : List A) → left ≡ [] → LeadsOn start all here left → InTurn Leads start all here
  all_shown start here all left none on = on here (rw none refl)

  -- The same for those from an index on.
  module _ (start here : S) (xs ys : List A) (i : ℕ) (same : ys ≡ xs) (on : LeadsOn start xs here (drop i xs)) where
    pub index_shown : (next : S) (x : A) → i < length ys → x ≡ get_or ys i x → Leads here x next → LeadsOn start xs next (drop (i + 1) xs)
    index_shown next x lt is leads =
        let there : drop i xs ≡ x ∷ drop (i + 1) xs =
        drop_more xs i x (rw same at lt) ∙ ap (λ (z : A). z ∷ drop (i + 1) xs) (sym (is ∙ ap (λ (zs : List A). get_or zs i x) same)) in
        next_shown start here next xs (drop i xs) (drop (i + 1) xs) x there leads on

    pub indices_shown : length ys ≤ i → InTurn Leads start xs here
    indices_shown past = all_shown start here xs (drop i xs) (drop_all i xs (rw same at past)) on
