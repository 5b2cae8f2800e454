-- No encoding of an integer begins another one, and each encodes one integer.
use Rattle.std.proofs.Common.{◌≡◌, ℕ, ◌-◌, [], ◌∷◌, ◌++◌, ℤ, arith, ap, inl, inr, subst}
use Rattle.std.proofs.lemmas.Int.{ints}
use Rattle.meaning.specs.binary.Values.{EndsSigned, SpellsSigned, SpellsUnsigned}
use Rattle.meaning.specs.binary.Conventions.{IsPrefixFree}
use Rattle.leb.proofs.SignedLaws.{ends_low}

pub unsigned-prefix_free : (bits : ℕ) → IsPrefixFree (SpellsUnsigned bits)
unsigned-prefix_free bits [] other rest behind m n p q e = absurd p
unsigned-prefix_free bits (a ∷ []) [] rest behind m n p q e = absurd q
unsigned-prefix_free bits (a ∷ b ∷ text) [] rest behind m n p q e = absurd q
unsigned-prefix_free bits (a ∷ []) (c ∷ []) rest behind m n p q e =
    let same : a ≡ c = cc in
    (ap (λ (x : ℕ). x ∷ []) same, omega arith)
unsigned-prefix_free bits (a ∷ []) (c ∷ d ∷ other) rest behind m n p q e =
    let same : a ≡ c = cc in
    absurd (omega arith)
unsigned-prefix_free bits (a ∷ b ∷ text) (c ∷ []) rest behind m n p q e =
    let same : a ≡ c = cc in
    absurd (omega arith)
unsigned-prefix_free bits (a ∷ b ∷ text) (c ∷ d ∷ other) rest behind m n p q e =
    let tails : (b ∷ text) ++ rest ≡ (d ∷ other) ++ behind = cc in
    let same : a ≡ c = cc in
    let (texts, values) = unsigned-prefix_free (bits - 7) (b ∷ text) (d ∷ other) rest behind p.2.0 q.2.0 p.2.1 q.2.1 tails in
    (cc, omega (arith, values, p.2.2, q.2.2))

ends_once : (bits byte : ℕ) (m n : ℤ) → EndsSigned bits byte m → EndsSigned bits byte n → m ≡ n
ends_once bits byte m n (inl p) (inl q) = omega (arith, ints)
ends_once bits byte m n (inl p) (inr q) = absurd (omega arith)
ends_once bits byte m n (inr p) (inl q) = absurd (omega arith)
ends_once bits byte m n (inr p) (inr q) = omega (arith, ints)

pub signed-prefix_free : (bits : ℕ) → IsPrefixFree (SpellsSigned bits)
signed-prefix_free bits [] other rest behind m n p q e = absurd p
signed-prefix_free bits (a ∷ []) [] rest behind m n p q e = absurd q
signed-prefix_free bits (a ∷ b ∷ text) [] rest behind m n p q e = absurd q
signed-prefix_free bits (a ∷ []) (c ∷ []) rest behind m n p q e =
    let same : c ≡ a = cc in
    (cc, ends_once bits a m n p (subst (λ (x : ℕ). EndsSigned bits x n) same q))
signed-prefix_free bits (a ∷ []) (c ∷ d ∷ other) rest behind m n p q e =
    let same : a ≡ c = cc in
    absurd (omega (arith, ends_low bits a m p))
signed-prefix_free bits (a ∷ b ∷ text) (c ∷ []) rest behind m n p q e =
    let same : a ≡ c = cc in
    absurd (omega (arith, ends_low bits c n q))
signed-prefix_free bits (a ∷ b ∷ text) (c ∷ d ∷ other) rest behind m n p q e =
    let tails : (b ∷ text) ++ rest ≡ (d ∷ other) ++ behind = cc in
    let same : a ≡ c = cc in
    let (texts, values) = signed-prefix_free (bits - 7) (b ∷ text) (d ∷ other) rest behind p.2.0 q.2.0 p.2.1 q.2.1 tails in
    (cc, omega (arith, ints, values, p.2.2, q.2.2))
