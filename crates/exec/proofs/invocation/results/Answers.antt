use Rattle.std.proofs.Common.{arith, ◌∙◌}
use Rattle.interpreter.specs.Looping.{machine_at}
use Rattle.exec.proofs.Ending.{results-are, results-fit, types-few}
use Rattle.exec.proofs.invocation.results.Goals as goal

pub overflow_sub-top : goal.overflow_sub-top
overflow_sub-top c = let (store, values, h) = c.requires.over in omega (arith, types-few store _ _ values h)

pub read_cells-requires-clause-fit : goal.read_cells-requires-clause-fit
read_cells-requires-clause-fit c = let (store, values, h) = c.requires.over in rw c.deref.ensures.value (results-fit store (machine_at c.args.call.now.cells.items c.args.call.now.position) _ values h)

pub returns-clause-read : goal.returns-clause-read
returns-clause-read c store values h = c.read_cells.ensures ∙ rw c.deref.ensures.value (results-are store (machine_at c.args.call.now.cells.items c.args.call.now.position) _ values h)
