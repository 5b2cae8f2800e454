use Rattle.std.proofs.Common.{◌-◌, refl}
use Rattle.sidetable.specs.Packing.{other_op}
use Rattle.exec.specs.Instructions.{taken_by as takes}
use Rattle.exec.specs.Resting.{at_rest}
use Rattle.exec.proofs.Doing.{did, enough, inside-cells, next-fits, refused-fuel, refused-memory, refused-trap, some-fuel}
use Rattle.exec.proofs.instructions.step.Goals as goal

pub go_behind-requires-clause-low : goal.go_behind-requires-clause-low
go_behind-requires-clause-low c = rw c.taken_by.ensures
    (enough (at_rest c.args.code.now c.args.state.now c.args.call.now) (other_op c.args.tables.now c.args.kind c.args.n) (takes c.args.kind)
    c.act.new.state _ c.requires.rests c.in-Ok.ensures)

pub go_behind-requires-clause-inside : goal.go_behind-requires-clause-inside
go_behind-requires-clause-inside c = inside-cells (at_rest c.args.code.now c.args.state.now c.args.call.now)
    (other_op c.args.tables.now c.args.kind c.args.n) (takes c.args.kind) c.act.new.state c.requires.rests

pub go_behind-requires-clause-next : goal.go_behind-requires-clause-next
go_behind-requires-clause-next c = next-fits (at_rest c.args.code.now c.args.state.now c.args.call.now)
    (other_op c.args.tables.now c.args.kind c.args.n) (takes c.args.kind) c.act.new.state c.requires.rests

pub overflow_sub-call : goal.overflow_sub-call
overflow_sub-call c = some-fuel (at_rest c.args.code.now c.args.state.now c.args.call.now) (other_op c.args.tables.now c.args.kind c.args.n)
    (takes c.args.kind) c.act.new.state c.in-Err-Traps.trap c.requires.rests (rw c.in-Err-Traps.field-0-is at c.in-Err-Traps.ensures)

pub returns-in-Ok : goal.returns-in-Ok
returns-in-Ok c =
    let position = rw c.taken_by.ensures at c.go_behind.ensures.position in
    did (at_rest c.args.code.now c.args.state.now c.args.call.now) (other_op c.args.tables.now c.args.kind c.args.n) (takes c.args.kind)
    c.act.new.state _ c.in-Ok.ensures _ c.requires.rests c.go_behind.ensures.cells c.go_behind.ensures.callers position

pub returns-in-Err-NoFuel : goal.returns-in-Err-NoFuel
returns-in-Err-NoFuel c bound u b = refused-fuel (at_rest c.args.code.now c.args.state.now c.args.call.now)
    (other_op c.args.tables.now c.args.kind c.args.n) (takes c.args.kind) c.act.new.state bound u b (rw c.in-Err-NoFuel.field-0-is at c.in-Err-NoFuel.ensures)

pub returns-in-Err-NoMemory : goal.returns-in-Err-NoMemory
returns-in-Err-NoMemory c bound u b = refused-memory (at_rest c.args.code.now c.args.state.now c.args.call.now)
    (other_op c.args.tables.now c.args.kind c.args.n) (takes c.args.kind) c.act.new.state bound u b
    (rw c.in-Err-NoMemory.field-0-is at c.in-Err-NoMemory.ensures)

pub returns-in-Err-Traps : goal.returns-in-Err-Traps
returns-in-Err-Traps c bound u b = rw c.in-Err-Traps.field-0-is
    (refused-trap (at_rest c.args.code.now c.args.state.now c.args.call.now) (other_op c.args.tables.now c.args.kind c.args.n) (takes c.args.kind)
    c.act.new.state bound u b c.in-Err-Traps.trap (rw c.in-Err-Traps.field-0-is at c.in-Err-Traps.ensures)
    (record c.args.call.now { position = record c.args.call.now.position { fuel = c.args.call.now.position.fuel - 1 } }) refl refl refl)
