-- What the first byte determines of an unsigned integer's encoding.
use Rattle.std.proofs.Common.{◌≡◌, ℕ, ◌+◌, ◌-◌, ◌*◌, ◌^◌, ◌<◌, ◌≤◌, List, [], ◌∷◌, ◌++◌, arith, ap, drop, length, refl, slice_index}
use Rattle.std.proofs.lemmas.List.{drop_all, drop_more}
use Rattle.meaning.specs.binary.Values.{SpellsUnsigned}
use Rattle.meaning.specs.binary.Conventions.{NoFront, Reads}

-- A last byte is the number.
pub last_reads : (bits byte : ℕ) (after : List ℕ) → byte < 2 ^ 7 → byte < 2 ^ bits → Reads (SpellsUnsigned bits) (byte ∷ after) byte after
last_reads bits byte after last within = record { text = byte ∷ []; spelt = (last, within, refl); parts = refl }

more_spelt : (bits byte high n : ℕ) (text : List ℕ) → 2 ^ 7 ≤ byte → 7 < bits → SpellsUnsigned (bits - 7) text high → n + 2 ^ 7 ≡ 2 ^ 7 * high + byte → SpellsUnsigned bits (byte ∷ text) n
more_spelt bits byte high n [] more wide spelt value = absurd spelt
more_spelt bits byte high n (next ∷ text) more wide spelt value = (more, wide, (high, spelt, value))

-- A byte that is not the last, followed by the encoding of the rest.
pub more_reads : (bits byte high n : ℕ) (bytes after : List ℕ) → 2 ^ 7 ≤ byte → 7 < bits → Reads (SpellsUnsigned (bits - 7)) bytes high after
    → n + 2 ^ 7 ≡ 2 ^ 7 * high + byte → Reads (SpellsUnsigned bits) (byte ∷ bytes) n after
more_reads bits byte high n bytes after more wide rest value =
    record { text = byte ∷ rest.text; spelt = more_spelt bits byte high n rest.text more wide rest.spelt value; parts = ap (λ (x : List ℕ). byte ∷ x) rest.parts }

-- The same at an offset.
pub last_reads_at : (bits at n : ℕ) (bytes : List ℕ) → at < length bytes → n ≡ slice_index bytes at → n < 2 ^ 7 → n < 2 ^ bits
    → Reads (SpellsUnsigned bits) (drop at bytes) n (drop (at + 1) bytes)
last_reads_at bits at n bytes within same last fits =
    rw (drop_more bytes at 0 within, same) (last_reads bits (slice_index bytes at) (drop (at + 1) bytes) (omega (arith, same)) (omega (arith, same)))

pub more_reads_at : (bits at end high n : ℕ) (bytes : List ℕ) → at < length bytes → 2 ^ 7 ≤ slice_index bytes at → 0 < bits
    → Reads (SpellsUnsigned bits) (drop (at + 1) bytes) high (drop end bytes) → n + 2 ^ 7 ≡ 2 ^ 7 * high + slice_index bytes at
    → Reads (SpellsUnsigned (bits + 7)) (drop at bytes) n (drop end bytes)
more_reads_at bits at end high n bytes within more some rest value =
    let back : bits + 7 - 7 ≡ bits = omega arith in
    rw (drop_more bytes at 0 within) (more_reads (bits + 7) (slice_index bytes at) high n (drop (at + 1) bytes) (drop end bytes) more (omega arith) (rw back rest) value)

-- No encoding begins with a last byte that the bits do not hold, nor with another byte if the rest encodes nothing.
none_front : (bits byte : ℕ) (bytes : List ℕ) → (byte < 2 ^ 7 → byte < 2 ^ bits → ⊥)
    → (2 ^ 7 ≤ byte → 7 < bits → NoFront (SpellsUnsigned (bits - 7)) bytes) → NoFront (SpellsUnsigned bits) (byte ∷ bytes)
none_front bits byte bytes last more [] rest value parts spelt = absurd spelt
none_front bits byte bytes last more (first ∷ []) rest value parts spelt =
    let same : byte ≡ first = cc in
    last (omega arith) (omega arith)
none_front bits byte bytes last more (first ∷ next ∷ text) rest value parts spelt =
    let same : byte ≡ first = cc in
    let tail : bytes ≡ (next ∷ text) ++ rest = cc in
    more (omega arith) spelt.1 (next ∷ text) rest spelt.2.0 tail spelt.2.1

-- In few bits, no encoding begins with a byte that represents nothing as the last one.
pub none_last : (bits at : ℕ) (bytes : List ℕ) → at < length bytes → bits ≤ 7 → (slice_index bytes at < 2 ^ 7 → slice_index bytes at < 2 ^ bits → ⊥)
    → NoFront (SpellsUnsigned bits) (drop at bytes)
none_last bits at bytes within few last =
    rw (drop_more bytes at 0 within) (none_front bits (slice_index bytes at) (drop (at + 1) bytes) last (λ more wide. absurd (omega arith)))

none_empty : (bits : ℕ) → NoFront (SpellsUnsigned bits) []
none_empty bits [] rest value parts spelt = absurd spelt
none_empty bits (byte ∷ text) rest value parts spelt = absurd (omega (arith, ap length parts))

-- No encoding begins where the bytes end.
pub none_missing : (bits at : ℕ) (bytes : List ℕ) → length bytes ≤ at → NoFront (SpellsUnsigned bits) (drop at bytes)
none_missing bits at bytes ends = rw (drop_all at bytes ends) (none_empty bits)

-- No encoding begins with a byte that is not the last if nothing encodes the rest.
pub none_behind_more : (bits at : ℕ) (bytes : List ℕ) → at < length bytes → 2 ^ 7 ≤ slice_index bytes at → NoFront (SpellsUnsigned bits) (drop (at + 1) bytes)
    → NoFront (SpellsUnsigned (bits + 7)) (drop at bytes)
none_behind_more bits at bytes within more none =
    let back : bits + 7 - 7 ≡ bits = omega arith in
    rw (drop_more bytes at 0 within) (none_front (bits + 7) (slice_index bytes at) (drop (at + 1) bytes) (λ last. absurd (omega arith)) (λ more wide. rw back none))
