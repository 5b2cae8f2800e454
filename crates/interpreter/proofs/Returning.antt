-- A return and the end of the code, whatever runs.
use Rattle.std.proofs.Common.{◌≡◌, ℕ, ◌+◌, ◌-◌, ◌<◌, ◌≤◌, List, [], ◌∷◌, length, reverse, Some, refl, ap, sym, subst, ◌∙◌, arith, length-append}
use Rattle.std.proofs.lemmas.List.{length-reverse}
use Rattle.std.proofs.lemmas.Option.{same_Some}
use Rattle.core_types.specs.declared.op.ControlOp.TheVariants as control
use Rattle.core_types.specs.declared.op.PlainOp.TheVariants as plain
use Rattle.core_types.specs.declared.types.ValType.{ValType}
use Rattle.meaning.specs.structure.Bodies.{Body, Empty, Then}
use Rattle.meaning.specs.execution.Configurations.{Frame as Activated, no_frame}
use Rattle.meaning.specs.execution.Instructions.{Next, next}
use Rattle.meaning.specs.execution.Runs.{price}
use Rattle.meaning.specs.execution.Store.{Store}
use Rattle.soundness.specs.Places.{RunsOn}
use Rattle.soundness.proofs.Control.{types-on-top}
use Rattle.soundness.proofs.Values.{values-length}
use Rattle.sidetable.specs.Flat.{Return}
use Rattle.sidetable.specs.SideTables.{entry_of_number}
use Rattle.sidetable.specs.declared.operations.Entry.{Entry}
use Rattle.sidetable.specs.declared.operations.PackedOp.TheVariants as op
use Rattle.sidetable.specs.declared.operations.TransferInstruction.TheVariants as transfer
use Rattle.simulation.specs.Runs.{Ghost, config_of, frame_of, place_of}
use Rattle.simulation.proofs.Settling.{at-end, begins}
use Rattle.simulation.proofs.Typed.{Inner, Settled, inner, leaves-steps, on, same-frame, settled, with_labels}
use Rattle.interpreter.specs.Callers.{Caller, layers_around}
use Rattle.interpreter.specs.Calling.{Leaves}
use Rattle.interpreter.specs.Looping.{loop_at, machine_at}
use Rattle.interpreter.specs.Running.{Machine, cells_in, height_in}
use Rattle.interpreter.specs.Operations.{Executes}
use Rattle.interpreter.specs.Whole.{Loop, LoopReaches, RunsSomeWhole, RunsWhole, StopsAt, Whole, whole}
use Rattle.interpreter.specs.Worlds.{World}
use Rattle.interpreter.specs.declared.machine.Frame.{Frame}
use Rattle.interpreter.specs.declared.machine.Position.{Position}
use Rattle.interpreter.specs.declared.machine.Stop.TheVariants as stop
use Rattle.interpreter.proofs.Leaving.{CanLeave, leaves-so, left-back, left-over}
use Rattle.interpreter.proofs.Lifting.{layers-out, lifted-there, stops-unpaid}
use Rattle.interpreter.proofs.Resuming.{IsLeft}

-- Under a return there are as many values as the frame gives.
enough-values : (h : Ghost) (rest : Body) (f : Inner h) → h.rest ≡ Then (plain.Control control.Return) rest → length h.results ≤ length h.values
enough-values h rest f is =
    let runs : RunsOn h.store (with_labels (place_of h) f.carried) (Then (plain.Control control.Return) rest) f.stack f.given = subst
    (λ (b : Body). RunsOn h.store (with_labels (place_of h) f.carried) b f.stack f.given) is f.runs in
    let (operands, results, between, (below, types, results_is, operands_are), frames, more) = runs in
    let (under_types, stack_is) = types-on-top f.stack operands results between frames below types operands_are in
    let same : length types ≡ length h.results = ap (λ (ts : List ValType). length ts) (sym (same_Some h.results types results_is)) in
    let count = values-length h.store h.values f.stack f.values in
    let parts : length f.stack ≡ length types + length under_types = ap length stack_is ∙ length-append (reverse types) under_types ∙ ap (λ (n : ℕ). n + length under_types) (length-reverse types) in
    omega (arith, same, count, parts)

-- The step that leaves the frame for one unit of fuel is not free.
priced : (h : Ghost) (cs : List Caller) (results : List ValType) → IsLeft 1 h → 0 < price (next h.store no_frame (whole (record { ghost = h; callers = cs; results = results })))
priced h [] results left = subst (λ (n : Next). 0 < price n) (sym (left.leaves [] no_frame [] Empty [])) (omega arith)
priced h (c ∷ cs) results left =
    let outer : Activated = record { instance = Some c.instance; locals = c.locals } in
    subst (λ (f : Activated). 0 < price (next h.store f (whole (record { ghost = h; callers = c ∷ cs; results = results })))) (layers-out cs c.code.outermost.kept outer)
    (subst (λ (n : Next). 0 < price n) (sym (left.leaves (layers_around cs c.code.outermost.kept) outer c.values c.rest c.labels)) (omega arith))

module _ (bound : ℕ) (w : World) (cells : List ℕ) (callers : List Frame) (at : Position) where
  abbrev m : Machine
  m = machine_at cells at

  abbrev l : Loop
  l = loop_at w cells callers at

  -- The whole, after labels were left.
  module _ (u : Whole) (r : RunsWhole bound l u) where
    abbrev s : Settled u.ghost (cells_in u.ghost m) m.place (height_in m)
    s = settled u.ghost (cells_in u.ghost m) m.place (height_in m) r.runs.runs

    abbrev settles : LoopReaches bound l u l
    settles = lifted-there bound l u r at.fuel
        (record {
          new = on u.ghost u.ghost.locals s.values s.labels s.rest;
          same = same-frame u.ghost u.ghost.store u.ghost.locals s.values s.labels s.rest;
          store = refl;
          steps = leaves-steps u.ghost.store (frame_of u.ghost) (config_of u.ghost) (config_of (on u.ghost u.ghost.locals s.values s.labels s.rest)) at.fuel s.leaves;
          runs = s.runs;
        })

  -- ---- the end of the code

  module _ (n : ℕ) (executes : Executes w m (op.Leave n)) where
    ends : CanLeave bound w cells at at.fuel callers 0 n
    ends u r =
        let (more, there) = executes u.ghost r.runs in
        let (no_labels, no_rest, count, n_is) = at-end u.ghost.code m.place n more there (s u r).values (s u r).labels (s u r).rest (s u r).runs.stands (s u r).settled in
        (settles u r, left-over (settles u r).new.ghost no_labels no_rest count, n_is)

    pub end-leaves : RunsSomeWhole bound l → Leaves bound w cells callers at at.fuel n
    end-leaves some = leaves-so bound w cells at at.fuel 0 n (omega arith) (omega arith) callers some ends

  -- ---- a return

  module _ (n : ℕ) (executes : Executes w m (op.Transfer transfer.Return n)) where
    abbrev e : Entry
    e = entry_of_number w.flat.tables n

    returns : CanLeave bound w cells at at.fuel callers 1 e.kept
    returns u r =
        let (more, there) = executes u.ghost r.runs in
        let z : Settled u.ghost (cells_in u.ghost m) m.place (height_in m) = s u r in
        let (rest, rest_is, e_is) = begins u.ghost.code m.place (Return e) more there z.values z.labels z.rest z.runs.stands z.settled in
        let h : Ghost = on u.ghost u.ghost.locals z.values z.labels z.rest in
        let enough = enough-values h rest (inner h z.runs.typed) rest_is in
        (settles u r, left-back (settles u r).new.ghost rest rest_is (omega (arith, enough, r.arity)), ap (λ (x : Entry). x.kept) e_is)

    pub return-leaves : RunsSomeWhole bound l → (left : ℕ) → 1 ≤ at.fuel → left ≡ at.fuel - 1 → Leaves bound w cells callers (record at { fuel = left }) at.fuel e.kept
    return-leaves some left paid left_is = leaves-so bound w cells (record at { fuel = left }) at.fuel 1 e.kept paid left_is callers some returns

    pub return-lacks : at.fuel ≡ 0 → StopsAt bound l stop.NoFuel l
    return-lacks none_left = record {
      from = λ u r.
          let (there, left, is) = returns u r in
          let dear = priced there.new.ghost there.new.callers there.new.results left in
          stops-unpaid bound stop.NoFuel refl l l u there
          (subst (λ (z : Store). at.fuel < price (next z no_frame (whole there.new))) there.runs.runs.store (omega (arith, none_left, dear)));
      falls = omega arith;
    }
