use Rattle.exec.proofs.Beginning.{arguments-few}
use Rattle.exec.proofs.Entering.{begins}
use Rattle.exec.proofs.invocation.begin.Goals as goal

pub first_cells-requires : goal.first_cells-requires
first_cells-requires c = let (a, takes) = c.requires.takes in arguments-few a c.args.function.now c.args.arguments.now takes

pub returns : goal.returns
returns c = record {
  begins = λ a takes bound some.
      begins a c.args.function.now c.args.arguments.now takes bound some c.args.fuel c.in_ok-cells.cells c.in_ok-cells.ensures c.new.result c.new.ensures;
}
