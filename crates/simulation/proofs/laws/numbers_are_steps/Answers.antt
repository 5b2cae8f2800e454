use Rattle.simulation.proofs.Numbers.{computes-from-one, computes-from-two, puts-i32, puts-i64}
use Rattle.simulation.proofs.laws.numbers_are_steps.Goals as goal

pub returns-clause-puts_i32 : goal.returns-clause-puts_i32
returns-clause-puts_i32 c = puts-i32

pub returns-clause-puts_i64 : goal.returns-clause-puts_i64
returns-clause-puts_i64 c = puts-i64

pub returns-clause-computes_from_one : goal.returns-clause-computes_from_one
returns-clause-computes_from_one c = computes-from-one

pub returns-clause-computes_from_two : goal.returns-clause-computes_from_two
returns-clause-computes_from_two c = computes-from-two
