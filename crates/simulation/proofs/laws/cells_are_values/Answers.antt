use Rattle.simulation.proofs.Cells.{argument-cells, first-cells, value-read}
use Rattle.simulation.proofs.laws.cells_are_values.Goals as goal

pub returns : goal.returns
returns c = record { read = value-read; firsts = first-cells; arguments = argument-cells }
