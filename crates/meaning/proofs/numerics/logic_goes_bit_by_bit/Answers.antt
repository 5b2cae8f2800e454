use Rattle.std.proofs.lemmas.Nat.Bits.{bit_at_and, bit_at_or, bit_at_xor}
use Rattle.meaning.proofs.numerics.logic_goes_bit_by_bit.Goals as goal

pub returns-clause-conjunction : goal.returns-clause-conjunction
returns-clause-conjunction c = λ bits a b i. bit_at_and a b i

pub returns-clause-disjunction : goal.returns-clause-disjunction
returns-clause-disjunction c = λ bits a b i. bit_at_or a b i

pub returns-clause-exclusion : goal.returns-clause-exclusion
returns-clause-exclusion c = λ bits a b i. bit_at_xor a b i
