use Rattle.meaning.proofs.lemmas.Formulas.{left_by_bits, right_by_bits}
use Rattle.meaning.proofs.numerics.rotations_move_each_bit.Goals as goal

pub returns-clause-left : goal.returns-clause-left
returns-clause-left c = left_by_bits

pub returns-clause-right : goal.returns-clause-right
returns-clause-right c = right_by_bits
