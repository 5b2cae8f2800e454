use Rattle.std.proofs.Common.{refl, List, length, ap, ◌∙◌}
use Rattle.std.specs.Vec.{with_items}
use Rattle.store.specs.Loaded.{LoadedContents}
use Rattle.exec.specs.Resting.{at_rest}
use Rattle.exec.proofs.Resting.{rests-valid, runs-at}
use Rattle.exec.proofs.Seeing.{is-back, memory-inside}
use Rattle.exec.proofs.Taking.{loaded-there, one-taken, runs-after, store-back, valid-after, written-over}
use Rattle.exec.proofs.calls.run_with_memory.Goals as goal

pub take_memory-memory-requires : goal.take_memory-memory-requires
take_memory-memory-requires c =
    let r = at_rest c.args.code.now c.args.state.now c.args.call.now in
    memory-inside r.code r.state _ c.args.instance.now c.requires.there (rests-valid c.args.bound r c.requires.rests) _ c.requires.memory

pub run-stop-requires : goal.run-stop-requires
run-stop-requires c =
    let r = at_rest c.args.code.now c.args.state.now c.args.call.now in
    let loaded = loaded-there c.args.bound r c.requires.rests c.args.instance.now c.requires.there in
    let flat = c.flat.result.now in
    let flat_is = c.flat.ensures.same ∙ ap (λ (l : LoadedContents). l.flat) c.as_ref.ensures in
    let taken = c.take_memory-memory in
    let sees = one-taken c.args.bound r c.args.instance.now loaded flat flat_is c.args.address c.requires.memory taken.result taken.ensures.taken
    c.limits.result c.limits.ensures c.bytes_mut.result.now c.bytes_mut.ensures.same taken.new.self taken.ensures.left in
    let (u, rests) = c.requires.rests in
    record { sound = (u, rw c.as_mut_slice.ensures.value (runs-at c.args.bound r u rests _ sees)) }

pub put_memory-requires : goal.put_memory-requires
put_memory-requires c =
    let r = at_rest c.args.code.now c.args.state.now c.args.call.now in
    let loaded = loaded-there c.args.bound r c.requires.rests c.args.instance.now c.requires.there in
    let flat = c.flat.result.now in
    let flat_is = c.flat.ensures.same ∙ ap (λ (l : LoadedContents). l.flat) c.as_ref.ensures in
    let taken = c.take_memory-memory in
    let sees = one-taken c.args.bound r c.args.instance.now loaded flat flat_is c.args.address c.requires.memory taken.result taken.ensures.taken
    c.limits.result c.limits.ensures c.bytes_mut.result.now c.bytes_mut.ensures.same taken.new.self taken.ensures.left in
    let ran = c.run-stop in
    let valid = valid-after c.args.bound r c.args.instance.now loaded flat flat_is _ _ sees c.as_mut_slice.result.now c.as_mut_slice.ensures.value
    ran.result ran.new.cells ran.new.callers ran.new.position ran.ensures.stops c.requires.rests in
    let back = is-back r.code ran.new.state _ c.args.instance.now c.requires.there c.args.address c.requires.memory _ valid in
    record { there = back.inside; within = rw (← c.limits.ensures) back.few }

pub returns-clause-runs : goal.returns-clause-runs
returns-clause-runs c =
    let r = at_rest c.args.code.now c.args.state.now c.args.call.now in
    let loaded = loaded-there c.args.bound r c.requires.rests c.args.instance.now c.requires.there in
    let flat = c.flat.result.now in
    let flat_is = c.flat.ensures.same ∙ ap (λ (l : LoadedContents). l.flat) c.as_ref.ensures in
    let taken = c.take_memory-memory in
    let sees = one-taken c.args.bound r c.args.instance.now loaded flat flat_is c.args.address c.requires.memory taken.result taken.ensures.taken
    c.limits.result c.limits.ensures c.bytes_mut.result.now c.bytes_mut.ensures.same taken.new.self taken.ensures.left in
    let ran = c.run-stop in
    let store = store-back c.args.bound r c.args.instance.now loaded flat flat_is c.args.address taken.result c.limits.result c.limits.ensures
    ran.new.memory (ran.auto.memory ∙ ap (λ (xs : List _). length xs) c.bytes_mut.ensures.same) ran.new.state c.put_memory.new.self c.put_memory.ensures in
    runs-after c.args.bound r c.args.instance.now loaded flat flat_is _ _ sees c.as_mut_slice.result.now c.as_mut_slice.ensures.value ran.result
    ran.new.cells ran.new.callers ran.new.position ran.ensures.stops refl c.put_memory.new.self store
    (with_items c.args.call.now.cells ran.new.cells) (written-over _ _ _ (ran.auto.cells ∙ c.as_mut_slice.ensures.len))
