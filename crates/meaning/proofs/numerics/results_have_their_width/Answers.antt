use Rattle.meaning.proofs.lemmas.OperatorRanges.{binary_range, comparison_range, conversion_range, eqz_range, unary_range}
use Rattle.meaning.proofs.numerics.results_have_their_width.Goals as goal

pub returns-clause-binary : goal.returns-clause-binary
returns-clause-binary c = binary_range

pub returns-clause-unary : goal.returns-clause-unary
returns-clause-unary c = unary_range

pub returns-clause-eqz : goal.returns-clause-eqz
returns-clause-eqz c = eqz_range

pub returns-clause-comparison : goal.returns-clause-comparison
returns-clause-comparison c = comparison_range

pub returns-clause-conversion : goal.returns-clause-conversion
returns-clause-conversion c = conversion_range
