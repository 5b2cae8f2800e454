use Rattle.std.proofs.Common.{◌≡◌, ◌+◌, ◌-◌, length, set, arith, subst, sym, ◌∙◌}
use Rattle.std.proofs.lemmas.List.{length-set}
use Rattle.interpreter.specs.Crossing.{ContinuesOrStops}
use Rattle.interpreter.specs.Looping.{loop_at, machine_at, world_at}
use Rattle.interpreter.specs.declared.machine.Position.{Position}
use Rattle.interpreter.proofs.Crossings.{crosses-over}
use Rattle.interpreter.proofs.Replacing.{moved-and-cleared}
use Rattle.interpreter.proofs.Executing.{place-fits}
use Rattle.interpreter.proofs.frames.replace.Goals as goal

pub cross-requires : goal.cross-requires
cross-requires c = c.requires.sound.1.number

pub returns-then-flat-cells : goal.returns-then-flat-cells
returns-then-flat-cells c = c.requires.replaces.no_room c.requires.paid (omega (arith, c.if-flat-cells.true, c.requires.replaces.declared, c.requires.replaces.arguments))

pub returns : goal.returns
returns c =
    let flat = c.args.function.now.flat.now in
    let (u, r) = c.requires.sound in
    let next = place-fits (world_at c.args.around c.args.state.now c.args.memory.now) (machine_at c.args.cells.now c.args.at.now) u.ghost r.runs in
    let size : length (set c.args.cells.now c.args.from.top c.args.from.operand) ≡ length c.args.cells.now = length-set c.args.cells.now c.args.from.top c.args.from.operand in
    let low = c.requires.replaces.arguments in
    let declared = c.requires.replaces.declared in
    let count : flat.params + (flat.locals - flat.params) ≡ flat.locals = omega (arith, declared) in
    let cells = rw count at (moved-and-cleared c.args.cells.now c.move_down.new.cells c.clear.new.cells c.args.at.now.base
    (c.args.from.top + 1 - flat.params) flat.params (flat.locals - flat.params) c.args.from.top c.args.from.operand (omega (arith, low))
    c.move_down.ensures.moved c.clear.ensures.cleared) in
    subst (λ (p : Position). ContinuesOrStops c.args.around.bound
    (loop_at (world_at c.args.around c.args.state.now c.args.memory.now) c.args.cells.now c.args.callers.now c.args.at.now) c.cross.result
    c.args.why.now c.clear.new.cells c.args.callers.now p) (sym c.cross.ensures.there)
    (crosses-over c.args.around.bound _ c.args.cells.now c.args.callers.now c.args.at.now next c.args.from c.args.function.now c.requires.sound c.requires.replaces c.requires.paid
    (omega (arith, c.if-flat-cells.false, declared, low)) c.clear.new.cells (cells, c.clear.ensures.size ∙ c.move_down.ensures.size ∙ size) c.cross.result c.cross.ensures.crossed _)
