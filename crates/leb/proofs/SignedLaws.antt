-- What the first byte determines of a signed integer's encoding.
use Rattle.std.proofs.Common.{◌≡◌, ℕ, ◌+◌, ◌-◌, ◌^◌, ◌<◌, ◌≤◌, List, [], ◌∷◌, ◌++◌, ℤ, pos, ◌+ℤ◌, ◌*ℤ◌, arith, ap, drop, length, refl, slice_index, subst, inl, inr, w64, FitsSigned}
use Rattle.std.proofs.lemmas.Int.{ints}
use Rattle.std.proofs.lemmas.List.{drop_all, drop_more}
use Rattle.leb.proofs.Widths.{half-seven_more, pow_at_most}
use Rattle.leb.specs.Ranges.{IsInRange}
use Rattle.meaning.specs.binary.Values.{EndsSigned, SpellsSigned}
use Rattle.meaning.specs.binary.Conventions.{NoFront, Reads}

pub ends_low : (bits byte : ℕ) (z : ℤ) → EndsSigned bits byte z → byte < 2 ^ 7
ends_low bits byte z (inl p) = omega arith
ends_low bits byte z (inr p) = omega arith

-- A signed integer is in the range of more bits too.
pub range_wider : (bits more : ℕ) (z : ℤ) → bits ≤ more → IsInRange bits z → IsInRange more z
range_wider bits more z wider range =
    let half = pow_at_most (bits - 1) (more - 1) (omega arith) in
    (omega (arith, ints, half, range), omega (arith, ints, half, range))

-- A signed integer of at most 64 bits is an `i64`.
pub IsInRange-fits : (bits : ℕ) (z : ℤ) → bits ≤ 64 → IsInRange bits z → FitsSigned w64 z
IsInRange-fits bits z narrow range = omega (arith, ints, range_wider bits 64 z narrow range)

-- What a last byte represents, it represents in more bits too.
pub ends_wider : (bits byte : ℕ) (z : ℤ) → 7 ≤ bits → EndsSigned 7 byte z → EndsSigned bits byte z
ends_wider bits byte z wide (inl p) = let half : 2 ^ 6 ≤ 2 ^ (bits - 1) = pow_at_most 6 (bits - 1) (omega arith) in inl (p.0, omega (arith, half), p.2)
ends_wider bits byte z wide (inr p) = let half : 2 ^ 6 ≤ 2 ^ (bits - 1) = pow_at_most 6 (bits - 1) (omega arith) in inr (p.0, p.1, omega (arith, half), p.3)

-- A byte that is not the last adds seven bits.
pub range_more : (bits byte : ℕ) (high z : ℤ) → 0 < bits → 2 ^ 7 ≤ byte → byte < 2 ^ 8 → IsInRange bits high
    → z +ℤ pos (2 ^ 7) ≡ (pos (2 ^ 7) *ℤ high) +ℤ pos byte → IsInRange (bits + 7) z
range_more bits byte high z some more less range value =
    let half = half-seven_more bits some in
    (omega (arith, ints, half, range), omega (arith, ints, half, range))

-- A last byte represents the number.
pub last_reads : (bits byte : ℕ) (z : ℤ) (after : List ℕ) → EndsSigned bits byte z → Reads (SpellsSigned bits) (byte ∷ after) z after
last_reads bits byte z after ends = record { text = byte ∷ []; spelt = ends; parts = refl }

more_spelt : (bits byte : ℕ) (high z : ℤ) (text : List ℕ) → 2 ^ 7 ≤ byte → 7 < bits → SpellsSigned (bits - 7) text high → z +ℤ pos (2 ^ 7)
    ≡ (pos (2 ^ 7) *ℤ high) +ℤ pos byte → SpellsSigned bits (byte ∷ text) z
more_spelt bits byte high z [] more wide spelt value = absurd spelt
more_spelt bits byte high z (next ∷ text) more wide spelt value = (more, wide, (high, spelt, value))

-- A byte that is not the last, followed by the encoding of the rest.
pub more_reads : (bits byte : ℕ) (high z : ℤ) (bytes after : List ℕ) → 2 ^ 7 ≤ byte → 7 < bits → Reads (SpellsSigned (bits - 7)) bytes high after
    → z +ℤ pos (2 ^ 7) ≡ (pos (2 ^ 7) *ℤ high) +ℤ pos byte → Reads (SpellsSigned bits) (byte ∷ bytes) z after
more_reads bits byte high z bytes after more wide rest value =
    record { text = byte ∷ rest.text; spelt = more_spelt bits byte high z rest.text more wide rest.spelt value; parts = ap (λ (x : List ℕ). byte ∷ x) rest.parts }

-- The same at an offset.
pub last_reads_at : (bits at : ℕ) (z : ℤ) (bytes : List ℕ) → at < length bytes → EndsSigned bits (slice_index bytes at) z
    → Reads (SpellsSigned bits) (drop at bytes) z (drop (at + 1) bytes)
last_reads_at bits at z bytes within ends = rw (drop_more bytes at 0 within) (last_reads bits (slice_index bytes at) z (drop (at + 1) bytes) ends)

pub more_reads_at : (bits at end : ℕ) (high z : ℤ) (bytes : List ℕ) → at < length bytes → 2 ^ 7 ≤ slice_index bytes at → 0 < bits
    → Reads (SpellsSigned bits) (drop (at + 1) bytes) high (drop end bytes) → z +ℤ pos (2 ^ 7) ≡ (pos (2 ^ 7) *ℤ high) +ℤ pos (slice_index bytes at)
    → Reads (SpellsSigned (bits + 7)) (drop at bytes) z (drop end bytes)
more_reads_at bits at end high z bytes within more some rest value =
    let back : bits + 7 - 7 ≡ bits = omega arith in
    rw (drop_more bytes at 0 within) (more_reads (bits + 7) (slice_index bytes at) high z (drop (at + 1) bytes) (drop end bytes) more (omega arith) (rw back rest) value)

-- No encoding begins with a last byte that represents nothing, nor with another byte if the rest encodes nothing.
none_front : (bits byte : ℕ) (bytes : List ℕ) → (byte < 2 ^ 7 → (z : ℤ) → EndsSigned bits byte z → ⊥)
    → (2 ^ 7 ≤ byte → 7 < bits → NoFront (SpellsSigned (bits - 7)) bytes) → NoFront (SpellsSigned bits) (byte ∷ bytes)
none_front bits byte bytes last more [] rest z parts spelt = absurd spelt
none_front bits byte bytes last more (first ∷ []) rest z parts spelt =
    let same : first ≡ byte = cc in
    last (omega (arith, ends_low bits first z spelt)) z (subst (λ (x : ℕ). EndsSigned bits x z) same spelt)
none_front bits byte bytes last more (first ∷ next ∷ text) rest z parts spelt =
    let same : byte ≡ first = cc in
    let tail : bytes ≡ (next ∷ text) ++ rest = cc in
    more (omega arith) spelt.1 (next ∷ text) rest spelt.2.0 tail spelt.2.1

-- In few bits, no encoding begins with a byte that represents nothing as the last one.
pub none_last : (bits at : ℕ) (bytes : List ℕ) → at < length bytes → bits ≤ 7 → ((z : ℤ) → EndsSigned bits (slice_index bytes at) z → ⊥)
    → NoFront (SpellsSigned bits) (drop at bytes)
none_last bits at bytes within few last =
    rw (drop_more bytes at 0 within) (none_front bits (slice_index bytes at) (drop (at + 1) bytes) (λ low. last) (λ more wide. absurd (omega arith)))

none_empty : (bits : ℕ) → NoFront (SpellsSigned bits) []
none_empty bits [] rest value parts spelt = absurd spelt
none_empty bits (byte ∷ text) rest value parts spelt = absurd (omega (arith, ap length parts))

-- No encoding begins where the bytes end.
pub none_missing : (bits at : ℕ) (bytes : List ℕ) → length bytes ≤ at → NoFront (SpellsSigned bits) (drop at bytes)
none_missing bits at bytes ends = rw (drop_all at bytes ends) (none_empty bits)

-- No encoding begins with a byte that is not the last if nothing encodes the rest.
pub none_behind_more : (bits at : ℕ) (bytes : List ℕ) → at < length bytes → 2 ^ 7 ≤ slice_index bytes at → NoFront (SpellsSigned bits) (drop (at + 1) bytes)
    → NoFront (SpellsSigned (bits + 7)) (drop at bytes)
none_behind_more bits at bytes within more none =
    let back : bits + 7 - 7 ≡ bits = omega arith in
    rw (drop_more bytes at 0 within) (none_front (bits + 7) (slice_index bytes at) (drop (at + 1) bytes) (λ last. absurd (omega arith)) (λ more wide. rw back none))
