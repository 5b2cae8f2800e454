use Rattle.std.proofs.Common.{ap, refl, None, [], ◌∙◌}
use Rattle.std.specs.Vec.{with_items}
use Rattle.store.specs.Loaded.{LoadedContents}
use Rattle.exec.specs.Resting.{at_rest}
use Rattle.exec.proofs.Resting.{runs-at}
use Rattle.exec.proofs.Taking.{loaded-there, none-taken, runs-after, written-over}
use Rattle.exec.proofs.calls.run_without_memory.Goals as goal

pub run-requires : goal.run-requires
run-requires c =
    let r = at_rest c.args.code.now c.args.state.now c.args.call.now in
    let loaded = loaded-there c.args.bound r c.requires.rests c.args.instance.now c.requires.there in
    let flat = c.flat.result.now in
    let flat_is = c.flat.ensures.same ∙ ap (λ (l : LoadedContents). l.flat) c.as_ref.ensures in
    let sees = none-taken c.args.bound r c.args.instance.now loaded flat flat_is c.requires.memory (record { min = 0; max = None }) [] in
    let (u, rests) = c.requires.rests in
    record { sound = (u, rw c.as_mut_slice.ensures.value (runs-at c.args.bound r u rests _ sees)) }

pub returns-clause-runs : goal.returns-clause-runs
returns-clause-runs c =
    let r = at_rest c.args.code.now c.args.state.now c.args.call.now in
    let loaded = loaded-there c.args.bound r c.requires.rests c.args.instance.now c.requires.there in
    let flat = c.flat.result.now in
    let flat_is = c.flat.ensures.same ∙ ap (λ (l : LoadedContents). l.flat) c.as_ref.ensures in
    let sees = none-taken c.args.bound r c.args.instance.now loaded flat flat_is c.requires.memory (record { min = 0; max = None }) [] in
    let ran = c.run in
    runs-after c.args.bound r c.args.instance.now loaded flat flat_is _ _ sees c.as_mut_slice.result.now c.as_mut_slice.ensures.value ran.result
    ran.new.cells ran.new.callers ran.new.position ran.ensures.stops refl ran.new.state refl
    (with_items c.args.call.now.cells ran.new.cells) (written-over _ _ _ (ran.auto.cells ∙ c.as_mut_slice.ensures.len))
