use Rattle.std.proofs.lemmas.List.{get_or_read}
use Rattle.interpreter.specs.Looping.{machine_at, world_at}
use Rattle.interpreter.proofs.Called.{by-name-fits, call-calls, call-within}
use Rattle.interpreter.proofs.frames.call_imported.Goals as goal

pub callee-callee-requires : goal.callee-callee-requires
callee-callee-requires c = call-within _ _ _ _ c.args.at.now c.args.kind _ c.requires.executes c.requires.sound c.index-address.result.now
    (get_or_read _ _ _ (by-name-fits c.args.kind (world_at c.args.around c.args.state.now c.args.memory.now)
    (machine_at c.args.cells.now c.args.at.now) _ c.requires.fits) c.index-address.ensures 0)

pub enter-requires-clause-calls : goal.enter-requires-clause-calls
enter-requires-clause-calls c =
    call-calls _ _ _ _ c.args.at.now c.args.kind _ c.requires.executes c.requires.sound c.index-address.result.now
    (get_or_read _ _ _ (by-name-fits c.args.kind (world_at c.args.around c.args.state.now c.args.memory.now)
    (machine_at c.args.cells.now c.args.at.now) _ c.requires.fits) c.index-address.ensures 0) c.callee-callee.result c.callee-callee.ensures
