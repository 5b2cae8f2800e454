use Rattle.meaning.proofs.lemmas.Formulas.{digits_suffice, no_bits, no_fewer, one_more_bit, twos_divide, twos_of_zero}
use Rattle.meaning.proofs.numerics.counts_are_of_digits_and_bits.Goals as goal

pub returns-clause-digits_suffice : goal.returns-clause-digits_suffice
returns-clause-digits_suffice c = digits_suffice

pub returns-clause-no_fewer : goal.returns-clause-no_fewer
returns-clause-no_fewer c = no_fewer

pub returns-clause-twos_divide : goal.returns-clause-twos_divide
returns-clause-twos_divide c = twos_divide

pub returns-clause-twos_of_zero : goal.returns-clause-twos_of_zero
returns-clause-twos_of_zero c = twos_of_zero

pub returns-clause-no_bits : goal.returns-clause-no_bits
returns-clause-no_bits c = no_bits

pub returns-clause-one_more_bit : goal.returns-clause-one_more_bit
returns-clause-one_more_bit c = one_more_bit
