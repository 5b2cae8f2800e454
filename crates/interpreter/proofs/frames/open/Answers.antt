use Rattle.std.proofs.Common.{◌≡◌, ◌∷◌, ◌+◌, ℕ, length, set, ap, arith, subst, sym, ◌∙◌}
use Rattle.std.proofs.lemmas.List.{length-set}
use Rattle.interpreter.specs.Crossing.{ContinuesOrStops}
use Rattle.interpreter.specs.Looping.{loop_at, world_at}
use Rattle.interpreter.specs.declared.machine.Frame.{Frame}
use Rattle.interpreter.specs.declared.machine.Position.{Position}
use Rattle.interpreter.proofs.Crossings.{crosses-in}
use Rattle.interpreter.proofs.frames.open.Goals as goal

pub cross-requires : goal.cross-requires
cross-requires c = c.requires.sound.1.number

pub returns-then-flat-cells : goal.returns-then-flat-cells
returns-then-flat-cells c = c.requires.calls.no_room c.requires.paid c.requires.shallow (omega (arith, c.if-flat-cells.true, c.requires.calls.declared, c.requires.calls.arguments))

pub returns-in_default : goal.returns-in_default
returns-in_default c = rw (c.in_default.ensures.err) (c.requires.calls.no_memory c.requires.paid c.requires.shallow)

pub returns : goal.returns
returns c =
    let waiting : ℕ → Frame = λ n. record { base = c.args.at.now.base; place = c.args.at.now.place + 1; instance = n } in
    let size : length (set c.args.cells.now c.args.from.top c.args.from.operand) ≡ length c.args.cells.now = length-set c.args.cells.now c.args.from.top c.args.from.operand in
    subst (λ (p : Position). ContinuesOrStops c.args.around.bound
    (loop_at (world_at c.args.around c.args.state.now c.args.memory.now) c.args.cells.now c.args.callers.now c.args.at.now) c.cross.result
    c.args.why.now c.clear.new.cells c.push.new.self p) (sym c.cross.ensures.there)
    (crosses-in c.args.around.bound _ c.args.cells.now c.args.callers.now c.args.at.now c.requires.next c.args.from c.args.function.now
    c.requires.sound c.requires.calls c.requires.paid c.requires.shallow
    (omega (arith, c.if-flat-cells.false, c.requires.calls.declared, c.requires.calls.arguments)) c.clear.new.cells c.clear.ensures.cleared (c.clear.ensures.size ∙ size) c.push.new.self
    (c.in-Ok.ensures.ok ∙ ap (λ (n : ℕ). waiting n ∷ c.args.callers.now) (sym c.requires.sound.1.number)) c.cross.result c.cross.ensures.crossed _)
