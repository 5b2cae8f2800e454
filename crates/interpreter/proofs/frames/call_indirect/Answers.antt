use Rattle.std.proofs.lemmas.List.{get_or_read}
use Rattle.interpreter.specs.Looping.{machine_at, world_at}
use Rattle.interpreter.proofs.Called.{through-calls, through-fits, through-lacks, through-refers, through-traps}
use Rattle.interpreter.proofs.frames.call_indirect.Goals as goal

pub returns-in_default : goal.returns-in_default
returns-in_default c = through-lacks _ _ _ _ c.args.at.now c.args.kind _ c.requires.executes _ c.in_default.ensures.none

pub find_through-requires-clause-refers : goal.find_through-requires-clause-refers
find_through-requires-clause-refers c = through-refers _ _ _ _ c.args.at.now c.args.kind _ c.requires.executes _
    (get_or_read _ _ _ (through-fits c.args.kind (world_at c.args.around c.args.state.now c.args.memory.now)
    (machine_at c.args.cells.now c.args.at.now) _ c.requires.fits).1 c.index-indices.ensures _) c.requires.sound

pub enter_far-crossing-requires-clause-calls : goal.enter_far-crossing-requires-clause-calls
enter_far-crossing-requires-clause-calls c =
    through-calls _ _ _ _ c.args.at.now c.args.kind _ c.requires.executes _
    (get_or_read _ _ _ (through-fits c.args.kind (world_at c.args.around c.args.state.now c.args.memory.now)
    (machine_at c.args.cells.now c.args.at.now) _ c.requires.fits).1 c.index-indices.ensures _) c.requires.sound
    (through-fits c.args.kind (world_at c.args.around c.args.state.now c.args.memory.now) (machine_at c.args.cells.now c.args.at.now) _
    c.requires.fits).0.0 c.in-Ok.found c.in-Ok.ensures

pub enter-requires-clause-calls : goal.enter-requires-clause-calls
enter-requires-clause-calls c =
    through-calls _ _ _ _ c.args.at.now c.args.kind _ c.requires.executes _
    (get_or_read _ _ _ (through-fits c.args.kind (world_at c.args.around c.args.state.now c.args.memory.now)
    (machine_at c.args.cells.now c.args.at.now) _ c.requires.fits).1 c.index-indices.ensures _) c.requires.sound
    (through-fits c.args.kind (world_at c.args.around c.args.state.now c.args.memory.now) (machine_at c.args.cells.now c.args.at.now) _
    c.requires.fits).0.0 c.in-Ok.found c.in-Ok.ensures

pub returns-in-Err : goal.returns-in-Err
returns-in-Err c =
    through-traps _ _ _ _ c.args.at.now c.args.kind _ c.requires.executes _
    (get_or_read _ _ _ (through-fits c.args.kind (world_at c.args.around c.args.state.now c.args.memory.now)
    (machine_at c.args.cells.now c.args.at.now) _ c.requires.fits).1 c.index-indices.ensures _) c.in-Some.left c.in-Some.ensures.some
    c.in-Err.trap c.in-Err.ensures
