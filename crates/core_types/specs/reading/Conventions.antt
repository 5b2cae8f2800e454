-- Reading functions, and ways to combine them.
use Rattle.std.specs.Prelude.{List, None, Option, Some, if◌then◌else◌, nat_le, ℕ, ◌==◌}

-- The value at the start of the bytes and the bytes after it, or nothing.
abbrev pub Reading : Type 0 → Type 0
Reading V = List ℕ → Option (V × List ℕ)

-- What is read after each number.
abbrev pub Cases : Type 0 → Type 0
Cases V = ℕ → Reading V

infixl 10 ◌>>=◌
abbrev pub ◌>>=◌ : {A B : Type 0} → Option A → (A → Option B) → Option B
(Some x) >>= f = f x
None >>= f = None

-- A value that takes no bytes.
abbrev pub bare_at : {V : Type 0} → V → Reading V
bare_at v bytes = Some (v, bytes)

-- What is read, mapped to another value.
abbrev pub mapped_at : {A B : Type 0} → (A → B) → Reading A → Reading B
mapped_at into read bytes = read bytes >>= λ a. Some (into a.0, a.1)

-- Two values in turn.
abbrev pub pair_at : {A B : Type 0} → Reading A → Reading B → Reading (A × B)
pair_at read next bytes = read bytes >>= λ a. next a.1 >>= λ b. Some ((a.0, b.0), b.1)

-- A number, and what it selects.
abbrev pub chosen_at : {V : Type 0} → Reading ℕ → Cases V → Reading V
chosen_at front read bytes = front bytes >>= λ code. read code.0 code.1

abbrev pub no_case : {V : Type 0} → Cases V
no_case code bytes = None

-- What this number selects, before the other cases.
abbrev pub case_at : {V : Type 0} → ℕ → Reading V → Cases V → Cases V
case_at expected read others code bytes = if code == expected then read bytes else others code bytes

-- The cases up to this number, before the other cases.
abbrev pub up_to : {V : Type 0} → ℕ → Cases V → Cases V → Cases V
up_to last cases others code bytes =
    if nat_le code last then cases code bytes else others code bytes

-- Cases, mapped to other values.
abbrev pub mapped_case : {A B : Type 0} → (A → B) → Cases A → Cases B
mapped_case into cases code bytes = cases code bytes >>= λ a. Some (into a.0, a.1)
