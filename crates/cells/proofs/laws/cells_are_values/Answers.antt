use Rattle.cells.proofs.Reading.{cell-of-value, type-of-value, value-of-cell}
use Rattle.cells.proofs.laws.cells_are_values.Goals as goal

pub returns-clause-value : goal.returns-clause-value
returns-clause-value c = value-of-cell

pub returns-clause-ty : goal.returns-clause-ty
returns-clause-ty c = type-of-value

pub returns-clause-cell : goal.returns-clause-cell
returns-clause-cell c = cell-of-value
