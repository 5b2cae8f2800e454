-- Integers, vectors, names and indices (Binary Format, Values; Conventions, Vectors). A list is a list of bytes: its numbers are below
-- 2 ^ 8.
use Rattle.std.specs.Prelude.{◌≡◌, ℕ, ◌+◌, ◌-◌, ◌*◌, ◌^◌, ◌<◌, ◌≤◌, ◌⊎◌, List, [], ◌∷◌, ℤ, pos, ◌+ℤ◌, ◌*ℤ◌, ◌++◌, length}
use Rattle.std.specs.Str.{IsUtf8}
use Rattle.meaning.specs.binary.Conventions.{SpellsBoth, SpellsEach}

-- The bytes encode n as an unsigned integer of that many bits. They are a byte below 2 ^ 7 that those bits hold, or a byte from 2 ^ 7 on
-- and an encoding of the rest in seven bits less.
abbrev pub SpellsUnsigned : ℕ → List ℕ → ℕ → Type 0
SpellsUnsigned bits [] n = ⊥
SpellsUnsigned bits (byte ∷ []) n = (byte < 2 ^ 7) × (byte < 2 ^ bits) × (n ≡ byte)
SpellsUnsigned bits (byte ∷ next ∷ bytes) n =
    (2 ^ 7 ≤ byte) × (7 < bits) ×
    ((rest : ℕ) × SpellsUnsigned (bits - 7) (next ∷ bytes) rest ×
    (n + 2 ^ 7 ≡ 2 ^ 7 * rest + byte))

-- A last byte that represents a number from 0 on, or a negative one.
abbrev pub EndsSigned : ℕ → ℕ → ℤ → Type 0
EndsSigned bits byte z =
    ((byte < 2 ^ 6) × (byte < 2 ^ (bits - 1)) × (z ≡ pos byte)) ⊎
    ((2 ^ 6 ≤ byte) × (byte < 2 ^ 7) × (2 ^ 7 ≤ byte + 2 ^ (bits - 1)) ×
    (z +ℤ pos (2 ^ 7) ≡ pos byte))

-- The bytes encode z as a signed integer of that many bits.
abbrev pub SpellsSigned : ℕ → List ℕ → ℤ → Type 0
SpellsSigned bits [] z = ⊥
SpellsSigned bits (byte ∷ []) z = EndsSigned bits byte z
SpellsSigned bits (byte ∷ next ∷ bytes) z =
    (2 ^ 7 ≤ byte) × (7 < bits) ×
    ((rest : ℤ) × SpellsSigned (bits - 7) (next ∷ bytes) rest ×
    (z +ℤ pos (2 ^ 7) ≡ (pos (2 ^ 7) *ℤ rest) +ℤ pos byte))

-- A count, and then that many in turn (Vectors).
abbrev pub SpellsVector : {V : Type 0} → (List ℕ → V → Type 0) → List ℕ → List V → Type 0
SpellsVector {V} Spells bytes vs =
    SpellsBoth (SpellsUnsigned 32) (SpellsEach Spells) bytes (length vs) vs

-- A size in bytes, and content of exactly that size.
abbrev pub SpellsSized : {V : Type 0} → (List ℕ → V → Type 0) → List ℕ → V → Type 0
SpellsSized {V} Spells bytes v =
    (size content : List ℕ) × (bytes ≡ size ++ content) × SpellsUnsigned 32 size (length content) ×
    Spells content v

-- A byte represents itself.
abbrev pub SpellsByte : List ℕ → ℕ → Type 0
SpellsByte bytes byte = bytes ≡ byte ∷ []

-- A name is a vector of bytes, which are UTF-8 (Values, Names).
abbrev pub SpellsName : List ℕ → List ℕ → Type 0
SpellsName bytes name = SpellsVector SpellsByte bytes name × IsUtf8 name

-- An index (Modules, Indices).
abbrev pub SpellsIndex : List ℕ → ℕ → Type 0
SpellsIndex bytes index = SpellsUnsigned 32 bytes index
