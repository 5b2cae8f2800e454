-- Numbers as the library reads and writes them, and as the definitions do.
use Rattle.std.proofs.Common.{◌≡◌, ℕ, zero, suc, ◌+◌, ◌*◌, ◌/◌, ◌%◌, ◌≤◌, ◌<◌, List, [], ◌∷◌, length, take, slice_set, ap, ◌∙◌, refl, add-one, arith}
use Rattle.std.proofs.lemmas.List.{set_split}
use Rattle.byteorder.specs.Endian.{little_bytes, little_number}
use Rattle.byteorder.specs.Numbers.{little_from-cons}
use Rattle.meaning.specs.execution.Storage.{bytes_of_number, number_of_bytes, overwrite}

pub little_number_is : (n : ℕ) (xs : List ℕ) → n ≤ length xs → little_number n xs ≡ number_of_bytes (take n xs)
little_number_is zero xs h = refl
little_number_is (suc n) [] h = absurd (omega (arith, h))
little_number_is (suc n) (x ∷ xs) h =
    ap (λ (r : ℕ). x + 256 * r) (little_from-cons 0 n x xs ∙ little_number_is n xs (omega arith))

pub low_2_bytes : (x : ℕ) → little_bytes 2 (x % 65536) ≡ bytes_of_number 2 x
unfolding bytes_of_number
low_2_bytes x =
    let first : x % 65536 % 256 ≡ x % 256 = omega arith in
    let second : x % 65536 / 256 % 256 ≡ x / 256 % 256 = omega arith in
    cc

pub low_4_bytes : (x : ℕ) → little_bytes 4 (x % 4294967296) ≡ bytes_of_number 4 x
unfolding bytes_of_number
low_4_bytes x =
    let first : x % 4294967296 % 256 ≡ x % 256 = omega arith in
    let second : x % 4294967296 / 256 % 256 ≡ x / 256 % 256 = omega arith in
    let third : x % 4294967296 / 65536 % 256 ≡ x / 256 / 256 % 256 = omega arith in
    let fourth : x % 4294967296 / 16777216 % 256 ≡ x / 256 / 256 / 256 % 256 = omega arith in
    cc

pub all_8_bytes : (x : ℕ) → little_bytes 8 x ≡ bytes_of_number 8 x
unfolding bytes_of_number
all_8_bytes x =
    let third : x / 65536 ≡ x / 256 / 256 = omega arith in
    let fourth : x / 16777216 ≡ x / 256 / 256 / 256 = omega arith in
    let fifth : x / 4294967296 ≡ x / 256 / 256 / 256 / 256 = omega arith in
    let sixth : x / 1099511627776 ≡ x / 256 / 256 / 256 / 256 / 256 = omega arith in
    let seventh : x / 281474976710656 ≡ x / 256 / 256 / 256 / 256 / 256 / 256 = omega arith in
    let eighth : x / 72057594037927936 ≡ x / 256 / 256 / 256 / 256 / 256 / 256 / 256 = omega arith in
    cc

-- One byte that is written.
pub slice_set_byte : (bytes : List ℕ) (offset x : ℕ) → offset < length bytes → slice_set bytes offset (x % 256) ≡ overwrite bytes offset (bytes_of_number 1 x)
unfolding bytes_of_number
slice_set_byte bytes offset x h = rw add-one (set_split bytes offset (x % 256) h)
