use Rattle.std.proofs.Common.{sym, subst}
use Rattle.interpreter.specs.Crossing.{ContinuesOrStops}
use Rattle.interpreter.specs.Looping.{loop_at, world_at}
use Rattle.interpreter.specs.declared.machine.Position.{Position}
use Rattle.interpreter.proofs.Crossings.{crosses-out}
use Rattle.interpreter.proofs.frames.leave.Goals as goal

pub cross-requires : goal.cross-requires
cross-requires c = c.requires.leaves.1.some.1.number

pub returns : goal.returns
returns c fuel leaves =
    subst (λ (p : Position). ContinuesOrStops c.args.around.bound
    (loop_at (world_at c.args.around c.args.state.now c.args.memory.now) c.args.cells.now c.args.callers.now
    (record c.args.at.now { fuel = fuel })) c.cross.result c.args.why.now c.land_results-at.new.cells c.pop.new.self p) (sym c.cross.ensures.there)
    (crosses-out _ _ _ _ c.args.at.now c.requires.next fuel c.args.results leaves c.in-Some.frame _ c.in-Some.ensures _ _ c.land_results-at.ensures c.cross.result c.cross.ensures.crossed _)
