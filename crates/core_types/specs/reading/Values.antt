-- Reading bytes, integers and vectors.
use Rattle.std.specs.Prelude.{Bool, List, None, Some, [], drop, false, if◌then◌else◌, nat_le, nat_lt, negsuc, pos, suc, zero, ℕ, ℤ, ◌*ℤ◌, ◌*◌, ◌++◌, ◌+ℤ◌, ◌+◌, ◌-◌, ◌==◌, ◌^◌, ◌∷◌}
use Rattle.core_types.specs.reading.Conventions.{Reading, ◌>>=◌}

abbrev pub byte_at : Reading ℕ
byte_at [] = None
byte_at (byte ∷ bytes) = Some (byte, bytes)

-- Whether the bytes begin with this one.
abbrev pub begins_with : ℕ → List ℕ → Bool
begins_with expected [] = false
begins_with expected (byte ∷ bytes) = byte == expected

-- Whether the first byte encodes a negative number.
abbrev pub begins_negative : List ℕ → Bool
begins_negative [] = false
begins_negative (byte ∷ bytes) = if nat_le 0x40 byte then nat_lt byte 0x80 else false

-- An unsigned integer of a number of bits.
unfoldable pub unsigned_at : ℕ → Reading ℕ
unsigned_at bits [] = None
unsigned_at bits (byte ∷ bytes) =
    if nat_lt byte 128
    then (if nat_lt byte (2 ^ bits) then Some (byte, bytes) else None)
    else (if nat_lt 7 bits
    then (unsigned_at (bits - 7) bytes >>= λ rest. Some (128 * rest.0 + (byte - 128), rest.1))
    else None)

-- A signed integer of a number of bits, from its last byte.
abbrev pub last_byte_at : ℕ → ℕ → Reading ℤ
last_byte_at bits byte bytes =
    if nat_lt byte 64
    then (if nat_lt byte (2 ^ (bits - 1)) then Some (pos byte, bytes) else None)
    else (if nat_le 128 (byte + 2 ^ (bits - 1)) then Some (negsuc (127 - byte), bytes) else None)

-- A signed integer of a number of bits.
unfoldable pub signed_at : ℕ → Reading ℤ
signed_at bits [] = None
signed_at bits (byte ∷ bytes) =
    if nat_lt byte 128
    then last_byte_at bits byte bytes
    else (if nat_lt 7 bits
    then (signed_at (bits - 7) bytes >>= λ rest. Some
    ((pos 128 *ℤ rest.0) +ℤ pos (byte - 128), rest.1))
    else None)

-- The number of `bits` bits with which a signed one is stored: a negative one counts down from 2 ^ bits (Execution,
-- Numerics, Integers).
abbrev pub stored : ℕ → ℤ → ℕ
stored bits (pos n) = n
stored bits (negsuc n) = 2 ^ bits - suc n

-- A number of values in turn, after those that were read before.
unfoldable pub each_at : {V : Type 0} → Reading V → ℕ → List V → Reading (List V)
each_at read zero values bytes = Some (values, bytes)
each_at read (suc count) values bytes = do
  value ← read bytes
  each_at read count (values ++ value.0 ∷ []) value.1

-- A count, and that many values.
unfoldable pub vector_at : {V : Type 0} → Reading V → Reading (List V)
vector_at read bytes = do
  count ← unsigned_at 32 bytes
  each_at read count.0 [] count.1

-- Exactly these bytes.
unfoldable pub expected_at : List ℕ → Reading (Unit {0})
expected_at [] bytes = Some (tt, bytes)
expected_at (byte ∷ expected) bytes =
    if begins_with byte bytes then expected_at expected (drop 1 bytes) else None

-- An index.
abbrev pub index_at : Reading ℕ
index_at bytes = unsigned_at 32 bytes
