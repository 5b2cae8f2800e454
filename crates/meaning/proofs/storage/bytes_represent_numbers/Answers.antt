use Rattle.std.proofs.Common.{◌≡◌, ℕ, zero, suc, ◌+◌, ◌*◌, ◌/◌, ◌%◌, ◌^◌, ◌<◌, length, refl, ap, ◌∙◌, arith}
use Rattle.std.proofs.Math.Nat.{mod-add-div, pow-suc}
use Rattle.meaning.specs.execution.Storage.{bytes_of_number, number_of_bytes}
use Rattle.meaning.proofs.storage.bytes_represent_numbers.Goals as goal

counted : (count n : ℕ) → length (bytes_of_number count n) ≡ count
unfolding bytes_of_number
counted zero n = refl
counted (suc count) n = ap suc (counted count (n / 256))

back : (count n : ℕ) → n < 256 ^ count → number_of_bytes (bytes_of_number count n) ≡ n
unfolding bytes_of_number
back zero n lt = omega (arith, lt)
back (suc count) n lt =
    let fewer : n / 256 < 256 ^ count = omega (arith, lt, pow-suc 256 count, mod-add-div n 256) in
    ap (λ (rest : ℕ). n % 256 + 256 * rest) (back count (n / 256) fewer) ∙ mod-add-div n 256

pub returns-clause-back : goal.returns-clause-back
returns-clause-back c = back

pub returns-clause-count : goal.returns-clause-count
returns-clause-count c = counted
