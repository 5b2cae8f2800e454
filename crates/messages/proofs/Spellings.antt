-- What bytes that begin with a number, a text, a type or a value can be.
use Rattle.std.proofs.Common.{◌≡◌, ℕ, suc, ◌<◌, ◌≤◌, ◌^◌, List, [], ◌∷◌, ◌++◌, length, take, drop, refl, sym, ap, ◌∙◌, append_assoc, arith, append-nil, length-append}
use Rattle.std.proofs.Math.Seq.{drop-append_seam, take-append_seam}
use Rattle.std.proofs.lemmas.Nat.{from_le_bytes-to_le_bytes_8}
use Rattle.std.specs.Int.{w64, from_le_bytes}
use Rattle.std.specs.Prelude.{All, flat_map}
use Rattle.messages.specs.Numbers.{number_bytes, text_bytes}

-- Lists with fronts of one length are equal in both parts.
pub same_parts : (xs ys us vs : List ℕ) → length xs ≡ length ys → xs ++ us ≡ ys ++ vs → (xs ≡ ys) × (us ≡ vs)
same_parts xs ys us vs n e = (
  sym (take-append_seam xs us) ∙ ap (take (length xs)) e ∙ ap (λ k. take k (ys ++ vs)) n ∙ take-append_seam ys vs,
  sym (drop-append_seam xs us) ∙ ap (drop (length xs)) e ∙ ap (λ k. drop k (ys ++ vs)) n ∙ drop-append_seam ys vs,
)

pub length-number_bytes : (n : ℕ) → length (number_bytes n) ≡ 8
unfolding number_bytes
length-number_bytes n = refl

-- A number can be read again.
pub number_bytes-injective : (m n : ℕ) → m < 2 ^ 64 → n < 2 ^ 64 → number_bytes m ≡ number_bytes n → m ≡ n
unfolding number_bytes
number_bytes-injective m n h k e =
    sym (from_le_bytes-to_le_bytes_8 m h) ∙ ap (from_le_bytes w64) e ∙ from_le_bytes-to_le_bytes_8 n k

-- Bytes begin with one number at most.
pub same_number : (m n : ℕ) (us vs : List ℕ) → m < 2 ^ 64 → n < 2 ^ 64 → number_bytes m ++ us ≡ number_bytes n ++ vs → (m ≡ n) × (us ≡ vs)
same_number m n us vs h k e =
    let parts = same_parts (number_bytes m) (number_bytes n) us vs (length-number_bytes m ∙ sym (length-number_bytes n)) e in
    (number_bytes-injective m n h k parts.0, parts.1)

-- Bytes that begin with a number are at least eight.
pub number_is_long : (n : ℕ) (us bytes : List ℕ) → number_bytes n ++ us ≡ bytes → 8 ≤ length bytes
number_is_long n us bytes e =
    let l = ap length e in
    let a = length-append (number_bytes n) us in
    let b = length-number_bytes n in
    omega arith

-- Bytes that begin with a text begin with its length, followed by its bytes.
pub same_text : (m : ℕ) (us text rest bytes : List ℕ) → m < 2 ^ 64 → length text < 2 ^ 64 → number_bytes m ++ us ≡ bytes → text_bytes text ++ rest ≡ bytes → (m ≡ length text) × (us ≡ text ++ rest)
same_text m us text rest bytes h k e f =
    same_number m (length text) us (text ++ rest) h k (e ∙ sym f ∙ append_assoc (number_bytes (length text)) text rest)

module _ {X : Type 0} (P : X → Type 0) (spelling : X → List ℕ) (k : ℕ) (width : (x : X) → length (spelling x) ≡ suc k) where
  -- If that many items are not all items, another one is next.
  pub next_item : (xs ys : List X) (us vs : List ℕ) → All P ys → length xs < length ys → flat_map spelling xs ++ us ≡ flat_map spelling ys ++ vs
      → (y : X) × (rest : List ℕ) × P y × (spelling y ++ rest ≡ us)
  next_item xs [] us vs all shorter e = absurd (omega (arith, shorter))
  next_item [] (y ∷ ys) us vs all shorter e =
      (y, flat_map spelling ys ++ vs, all 0 y (omega arith), sym (append_assoc (spelling y) (flat_map spelling ys) vs) ∙ sym e)
  next_item (x ∷ xs) (y ∷ ys) us vs all shorter e =
      let same = sym (append_assoc (spelling x) (flat_map spelling xs) us) ∙ e ∙ append_assoc (spelling y) (flat_map spelling ys) vs in
      next_item xs ys us vs (λ i d h. all (suc i) d (omega arith)) (omega (arith, shorter)) (same_parts (spelling x) (spelling y) _ _ (width x ∙ sym (width y)) same).1

  -- If bytes are left, the items before them are not all.
  pub items_are_left : (xs ys : List X) (us : List ℕ) → 0 < length us → flat_map spelling xs ++ us ≡ flat_map spelling ys → length xs < length ys
  items_are_left [] [] us some e = absurd (omega (arith, some, ap length e))
  items_are_left [] (y ∷ ys) us some e = omega arith
  items_are_left (x ∷ xs) [] us some e =
      absurd (omega (arith, ap length e, length-append (spelling x ++ flat_map spelling xs) us, length-append (spelling x) (flat_map spelling xs), width x))
  items_are_left (x ∷ xs) (y ∷ ys) us some e =
      let same = sym (append_assoc (spelling x) (flat_map spelling xs) us) ∙ e in
      let fewer = items_are_left xs ys us some (same_parts (spelling x) (spelling y) _ _ (width x ∙ sym (width y)) same).1 in
      omega arith

-- If nothing is left, the first part is all.
pub front_is_all : (front rest bytes : List ℕ) → front ++ rest ≡ bytes → length bytes ≤ length front → front ≡ bytes
front_is_all front [] bytes e h = sym (append-nil front) ∙ e
front_is_all front (x ∷ rest) bytes e h = absurd (omega (arith, ap length e, length-append front (x ∷ rest)))

-- Bytes begin with one text at most.
pub same_texts : (s t us vs : List ℕ) → length s < 2 ^ 64 → length t < 2 ^ 64 → text_bytes s ++ us ≡ text_bytes t ++ vs → (s ≡ t) × (us ≡ vs)
same_texts s t us vs h k e =
    let same = same_text (length s) (s ++ us) t vs _ h k (sym (append_assoc (number_bytes (length s)) s us)) (sym e) in
    same_parts s t us vs same.0 same.1

module _ {X : Type 0} (spelling : X → List ℕ) (k : ℕ) (width : (x : X) → length (spelling x) ≡ k) where
  -- After the same number of items, the rest is the same.
  pub same_behind : (xs ys : List X) (us vs : List ℕ) → length xs ≡ length ys → flat_map spelling xs ++ us ≡ flat_map spelling ys ++ vs → us ≡ vs
  same_behind [] [] us vs n e = e
  same_behind [] (y ∷ ys) us vs n e = absurd (omega (arith, n))
  same_behind (x ∷ xs) [] us vs n e = absurd (omega (arith, n))
  same_behind (x ∷ xs) (y ∷ ys) us vs n e =
      let same = sym (append_assoc (spelling x) (flat_map spelling xs) us) ∙ e ∙ append_assoc (spelling y) (flat_map spelling ys) vs in
      same_behind xs ys us vs (omega (arith, n)) (same_parts (spelling x) (spelling y) _ _ (width x ∙ sym (width y)) same).1
