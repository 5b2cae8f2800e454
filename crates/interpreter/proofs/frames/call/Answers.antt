use Rattle.std.proofs.Common.{◌≡◌, ◌+◌, ◌-◌, ◌<◌, length, refl, arith}
use Rattle.store.specs.declared.instances.ModuleFunction.{ModuleFunction}
use Rattle.interpreter.specs.Looping.{machine_at, world_at}
use Rattle.interpreter.proofs.Called.{by-name-fits, call-lacks, own-calls}
use Rattle.interpreter.proofs.frames.call.Goals as goal

pub returns-then-at-eq0 : goal.returns-then-at-eq0
returns-then-at-eq0 c = call-lacks _ _ _ _ c.args.at.now c.args.kind _ c.requires.executes c.if-at-eq0.true

pub enter_function-requires-clause-calls : goal.enter_function-requires-clause-calls
enter_function-requires-clause-calls c =
    let inside : c.args.index < length c.args.around.instance.now.addresses.functions.items = by-name-fits c.args.kind
    (world_at c.args.around c.args.state.now c.args.memory.now) (machine_at c.args.cells.now c.args.at.now) _ c.requires.fits in
    let behind : c.args.index ≡ c.args.around.instance.now.imported + (c.args.index - c.args.around.instance.now.imported) = omega (arith, c.if-index-imported.false) in
    let function : ModuleFunction = record { ty = c.function-own.result.ty; func = c.function-own.result.func; flat = c.function-own.result.flat; instance = c.args.around.number } in
    own-calls _ (world_at c.args.around c.args.state.now c.args.memory.now) c.args.cells.now c.args.callers.now c.args.at.now c.args.kind c.args.index
    c.requires.executes c.requires.sound function refl (c.args.index - c.args.around.instance.now.imported) behind inside
    (rw c.as_ref.ensures at c.function-own.ensures.func) (rw c.as_ref.ensures at c.function-own.ensures.ty) (rw c.as_ref.ensures at c.function-own.ensures.flat) c.function-own.ensures.body
