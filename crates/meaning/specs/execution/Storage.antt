-- Numbers as bytes, and items that replace others (Execution, Numerics, Storage).
use Rattle.std.specs.Prelude.{ℕ, zero, suc, ◌+◌, ◌*◌, ◌/◌, ◌%◌, ◌^◌, ◌<◌, List, [], ◌∷◌, ◌++◌, take, drop, length}
use Rattle.std.specs.List.{All}

-- Each is a byte.
abbrev pub AreBytes : List ℕ → Type 0
AreBytes bytes = All (λ (byte : ℕ). byte < 2 ^ 8) bytes

-- The number that bytes represent, the lowest byte first (the inverse of bytes).
abbrev pub number_of_bytes : List ℕ → ℕ
number_of_bytes [] = 0
number_of_bytes (b ∷ bs) = b + 256 * number_of_bytes bs

-- That many bytes of a number, the lowest first (bytes).
unfoldable pub bytes_of_number : (count : ℕ) → ℕ → List ℕ
bytes_of_number zero n = []
bytes_of_number (suc count) n = n % 256 ∷ bytes_of_number count (n / 256)

-- That many items from an offset on.
abbrev pub items_at : {T : Type 0} → List T → (offset count : ℕ) → List T
items_at items offset count = take count (drop offset items)

-- The items, with others instead of those from an offset on.
abbrev pub overwrite : {T : Type 0} → List T → (offset : ℕ) → List T → List T
overwrite items offset new = take offset items ++ (new ++ drop (offset + length new) items)
