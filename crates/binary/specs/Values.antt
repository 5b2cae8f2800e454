-- Reading bytes, integers, vectors and names.
use Rattle.std.specs.Prelude.{List, None, Option, Some, [], ◌∷◌, drop, if◌then◌else◌, length, nat_lt, take, ℕ, ◌==◌}
use Rattle.std.specs.Str.{is_utf8}
use Rattle.core_types.specs.reading.Conventions.{Reading, ◌>>=◌}
use Rattle.core_types.specs.reading.Values.{unsigned_at}

-- The next byte, if there is one.
abbrev pub first_byte : List ℕ → Option ℕ
first_byte [] = None
first_byte (byte ∷ bytes) = Some byte

-- A size, and that many bytes.
unfoldable pub part_at : Reading (List ℕ)
part_at bytes = do
  size ← unsigned_at 32 bytes
  if nat_lt (length size.1) size.0 then None else Some (take size.0 size.1, drop size.0 size.1)

-- A size, and content of exactly that size.
unfoldable pub sized_at : {V : Type 0} → Reading V → Reading V
sized_at read bytes = do
  part ← part_at bytes
  content ← read part.0
  if length content.1 == 0 then Some (content.0, part.1) else None

-- A name, which is UTF-8.
unfoldable pub name_at : Reading (List ℕ)
name_at bytes = do
  part ← part_at bytes
  if is_utf8 part.0 then Some (part.0, part.1) else None
