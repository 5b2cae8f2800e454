-- Encodings: relations between bytes and what they represent, and ways to combine them (Binary Format, Conventions).
use Rattle.std.specs.Prelude.{◌≡◌, ℕ, List, ◌++◌, [], ◌∷◌}

-- A front of the bytes encodes the value, and the rest follows it.
pub record Reads {V : Type 0} (Spells : List ℕ → V → Type 0) (bytes : List ℕ) (value : V)
    (rest : List ℕ) : Type 0 where
  pub text : List ℕ
  pub spelt : Spells text value
  pub parts : bytes ≡ text ++ rest

-- No front of the bytes is an encoding.
abbrev pub NoFront : {V : Type 0} → (List ℕ → V → Type 0) → List ℕ → Type 0
NoFront {V} Spells bytes =
    (text rest : List ℕ) (value : V) → bytes ≡ text ++ rest → Spells text value → ⊥

-- No encoding begins another one, and an encoding has one value.
abbrev pub IsPrefixFree : {V : Type 0} → (List ℕ → V → Type 0) → Type 0
IsPrefixFree {V} Spells =
    (text other rest behind : List ℕ) (value again : V) → Spells text value → Spells other again
    → text ++ rest ≡ other ++ behind → (text ≡ other)
    × (value ≡ again)

-- One after the other.
abbrev pub SpellsBoth : {A B : Type 0} → (List ℕ → A → Type 0) → (List ℕ → B → Type 0) → List ℕ → A
    → B → Type 0
SpellsBoth {A} {B} First Second bytes a b =
    (first second : List ℕ) × (bytes ≡ first ++ second) × First first a × Second second b

-- The same, as the encoding of the pair.
abbrev pub SpellsPair : {A B : Type 0} → (List ℕ → A → Type 0) → (List ℕ → B → Type 0) → List ℕ
    → A × B → Type 0
SpellsPair First Second bytes pair = SpellsBoth First Second bytes pair.0 pair.1

-- A byte, and an encoding after it.
abbrev pub SpellsTagged : {V : Type 0} → ℕ → (List ℕ → V → Type 0) → List ℕ → V → Type 0
SpellsTagged {V} tag Spells bytes v = (inside : List ℕ) × (bytes ≡ tag ∷ inside) × Spells inside v

-- Each of a list in turn.
abbrev pub SpellsEach : {V : Type 0} → (List ℕ → V → Type 0) → List ℕ → List V → Type 0
SpellsEach {V} Spells bytes [] = bytes ≡ []
SpellsEach {V} Spells bytes (v ∷ vs) =
    (first others : List ℕ) × (bytes ≡ first ++ others) × Spells first v ×
    SpellsEach Spells others vs
