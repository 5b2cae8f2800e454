-- Calls of host functions: the steps of the whole.
use Rattle.std.proofs.Common.{IfErr, IfOk, Result, Ok, Err, ◌≡◌, ℕ, suc, ◌+◌, ◌-◌, ◌<◌, ◌≤◌, List, [], ◌∷◌, ◌++◌, length, map, reverse, take, drop, set, refl}
use Rattle.std.proofs.Common.{ap, sym, subst, ◌∙◌, arith, append_assoc, length-append}
use Rattle.std.proofs.lemmas.List.{append-nil, length-drop, length-reverse, length-set, reverse-reverse, take-set-le, take-take}
use Rattle.std.proofs.lemmas.Option.{same_Some}
use Rattle.std.specs.Prelude.{Option, Some, slice_get}
use Rattle.core_types.specs.declared.op.PlainOp.{PlainOp}
use Rattle.core_types.specs.declared.outcome.Trap.TheVariants.{Host}
use Rattle.core_types.specs.declared.outcome.Val.{Val}
use Rattle.core_types.specs.declared.types.FuncType.{FuncType}
use Rattle.core_types.specs.declared.types.ValType.{ValType}
use Rattle.meaning.specs.structure.Bodies.{Body, Empty}
use Rattle.meaning.specs.execution.Configurations.{Activation, Configuration, Frame as Activated, InFrame, Running, answered, depth, no_frame}
use Rattle.meaning.specs.execution.Instructions.{CallsHost, Next, TailCalls, call_function, lent_memory, next, step_instruction}
use Rattle.meaning.specs.execution.Layers.{Layer, plug}
use Rattle.meaning.specs.execution.Runs.{Answer, AsksForMemory, HostTrap, IsWithinBound, OutOfMemory, Results, Run, State, Steps, WithTrap, WithValues, calls}
use Rattle.meaning.specs.execution.Runs.{end, host_trapped, no_memory, one_more, price, values_left}
use Rattle.meaning.specs.execution.Hosts.{IsHostStep}
use Rattle.meaning.specs.execution.Store.{FunctionInstance, Store, instance_of}
use Rattle.meaning.specs.execution.Values.{type_of}
use Rattle.meaning.specs.soundness.Values.{ValuesHaveTypes}
use Rattle.meaning.proofs.lemmas.Hosts.{steps-over}
use Rattle.meaning.proofs.lemmas.Runs.{Steps-run}
use Rattle.meaning.proofs.lemmas.Layers.{plugged-answered, plugged-calls}
use Rattle.soundness.specs.Configurations.{ConfigurationHasType, HostCallIsGood, IsGood}
use Rattle.soundness.specs.Hosts.{AreReady}
use Rattle.soundness.specs.Places.{inside_frame, instance_context, outermost}
use Rattle.soundness.specs.Runs.{AnswersWell}
use Rattle.soundness.specs.Stores.{Follows, StoreIsValid}
use Rattle.soundness.proofs.Extension.{configuration-extended}
use Rattle.soundness.proofs.Hosts.{hosts-answer-well}
use Rattle.soundness.proofs.Steps.{stays-good}
use Rattle.soundness.proofs.Values.{values-length}
use Rattle.sidetable.specs.Counts.{counts, counts_of}
use Rattle.cells.specs.Cells.{AreCellsOf, cell_of, values_of}
use Rattle.cells.proofs.Reading.{type-of-value}
use Rattle.simulation.specs.Callees.{IsCalling, IsHostCall, IsTailCalling, ReachesCall, behind_call}
use Rattle.simulation.specs.Calls.{activation_of, around}
use Rattle.simulation.specs.Outcomes.{operand_cells}
use Rattle.simulation.specs.Piles.{cells_of}
use Rattle.simulation.specs.Runs.{Ghost, Runs, config_of, frame_of, place_of}
use Rattle.simulation.specs.Settling.{in_frame}
use Rattle.simulation.specs.Standing.{FrameCode, StandsIn, values_under}
use Rattle.simulation.proofs.Calls.{plug-around}
use Rattle.simulation.proofs.Cells.{cells-joined, map-reversed}
use Rattle.simulation.proofs.Frames.{callers-on}
use Rattle.simulation.proofs.Hosts.{bytes-lent, calls-reach-hosts, tail-calls-reach-hosts}
use Rattle.simulation.proofs.Steps.{within}
use Rattle.store.specs.Contents.{AreOfContext, Contents, IsLoaded, code_store, functions_in, host_function, store_with}
use Rattle.store.specs.State.{StateContents}
use Rattle.exec.proofs.Lending.{one_type}
use Rattle.interpreter.specs.Callers.{Caller, CallerStands, CallersStand, layers_around}
use Rattle.interpreter.specs.Calling.{frame_waiting}
use Rattle.sidetable.specs.FlatModules.{operations_of}
use Rattle.interpreter.specs.Layout.{put_back, without_scrap}
use Rattle.interpreter.specs.Looping.{loop_at, machine_at}
use Rattle.interpreter.specs.Running.{Machine, cells_in, height_in}
use Rattle.interpreter.specs.Whole.{CallsHostNext, Loop, LoopReaches, RunsWhole, Whole, layers_of, whole}
use Rattle.interpreter.specs.Worlds.{Sees, World}
use Rattle.interpreter.specs.declared.machine.CallKind.{CallKind}
use Rattle.interpreter.specs.declared.machine.CallKind.TheVariants.{Nested, Tail}
use Rattle.interpreter.specs.declared.machine.Frame.{Frame}
use Rattle.interpreter.specs.declared.machine.Position.{Position}
use Rattle.interpreter.proofs.Cells.{frame-length, popped-frame}
use Rattle.interpreter.proofs.Calling.{reached-by}
use Rattle.interpreter.proofs.Lifting.{layers-out, lifted-there}
use Rattle.interpreter.proofs.ResultCells.{base-is, caller-held, held_values}
use Rattle.interpreter.proofs.Resuming.{caller-room, caller-runs, frame-typed, ghost_resumed}
use Rattle.exec.specs.Hosting.{ReachesWithHosts, ReachesWithHostsOrEnds, WaitsForHost, position_answered, with_results}
use Rattle.exec.specs.Endings.{ending_of, first_memory, run_state}
use Rattle.exec.specs.Resting.{AtRest, Rests, at_rest, fuel_left, loop_of, machine_of, store_around}
use Rattle.exec.specs.declared.call.Call.{Call}
use Rattle.exec.specs.declared.outcome.Outcome.{Outcome}
use Rattle.exec.proofs.Putting.{operands-there, results-below, results-on-top, results-size}
use Rattle.interpreter.proofs.Worlds.{flat-seen}
use Rattle.exec.proofs.Seeing.{seen-from}

-- Cells that are read at types have these types.
types-read : (ts : List ValType) (ns : List ℕ) → AreCellsOf ts ns → map type_of (values_of ts ns) ≡ ts
types-read [] [] fit = refl
types-read [] (n ∷ ns) fit = absurd fit
types-read (t ∷ ts) [] fit = absurd fit
types-read (t ∷ ts) (n ∷ ns) fit = rw (type-of-value t n, types-read ts ns fit.1) refl

-- The cells with the topmost operand written back.
abbrev pub cells_held : AtRest → List ℕ
cells_held r = set (machine_of r).cells (machine_of r).top (machine_of r).operand

-- ---- a host function that is called

module _ (bound : ℕ) (r : AtRest) (w : Whole) (rests : Rests bound r w) (op : PlainOp) (address : ℕ) (function : FunctionInstance) (height behind : ℕ)
    (lies : behind ≡ (machine_of r).base + height + 1) (paid : 1 ≤ fuel_left r)
    (c : ReachesCall op address function w.ghost (cells_in w.ghost (machine_of r)) (machine_of r).place (height_in (machine_of r)) height)
    (number : ℕ) (t : FuncType) (found : slice_get (functions_in r.code) address ≡ Some (host_function number t)) where
  abbrev m : Machine
  m = machine_of r

  abbrev l : Loop
  l = loop_of rests.world r

  abbrev g : Ghost
  g = c.new

  abbrev k : ℕ
  k = length t.params

  abbrev held : List ℕ
  held = cells_held r

  abbrev first : ℕ
  first = behind - k

  -- ---- what is there

  store-is : g.store ≡ store_around r
  store-is = c.store ∙ rests.runs.runs.store ∙ rests.sees.store

  function-is : function ≡ host_function number t
  function-is = same_Some function (host_function number t) (sym (subst (λ (s : Store). slice_get s.functions address ≡ Some function) store-is c.there) ∙ found)

  params-are : function.ty.params ≡ t.params
  params-are = ap (λ (f : FunctionInstance). f.ty.params) function-is

  many-are : length function.ty.params ≡ k
  many-are = ap (λ (ts : List ValType). length ts) params-are

  -- After labels were left, the call is next.
  abbrev pub there : LoopReaches bound l w l
  there = lifted-there bound l w rests.runs (fuel_left r) (record { new = c.new; same = c.same; store = c.store; steps = c.steps (fuel_left r); runs = c.runs })

  instance-is : g.instance ≡ r.call.position.instance
  instance-is = c.same.instance ∙ rests.runs.runs.number ∙ sym rests.runs.number

  -- The code is that of the frame.
  locals-are : g.code.locals ≡ w.ghost.code.locals
  locals-are = ap (λ (code : FrameCode). code.locals) c.same.code

  count : w.ghost.code.locals ≡ length g.locals
  count = sym locals-are ∙ sym there.runs.runs.runs.holds.count

  -- ---- the arguments

  above : w.ghost.code.locals + k ≤ height
  above = let le = c.operands.above in omega (arith, le, count, many-are)

  pub enough : k ≤ behind
  enough = omega (arith, above, lies)

  first-is : first ≡ m.base + suc (height - k)
  first-is = omega (arith, above, lies)

  held-size : length held ≡ length m.cells
  held-size = length-set m.cells m.top m.operand

  frame-size : length (cells_in w.ghost m) ≡ length m.cells - suc m.base
  frame-size = let scrap = rests.runs.runs.scrap in frame-length w.ghost.code.locals m.base held (omega (arith, held-size, scrap)) ∙ omega (arith, held-size)

  pub behind-inside : behind ≤ length m.cells
  behind-inside =
      let within_cells = c.operands.inside in
      let under_top = c.top_is in
      let scrap = rests.runs.runs.scrap in
      omega (arith, frame-size, within_cells, lies, under_top, scrap)

  arguments-lie : operand_cells (cells_in w.ghost m) height (length function.ty.params) ≡ take k (drop first held)
  arguments-lie =
      let scrap = rests.runs.runs.scrap in
      ap (operand_cells (cells_in w.ghost m) height) many-are
      ∙ operands-there w.ghost.code.locals m.base held height k first (omega (arith, held-size, scrap)) (omega (arith, above)) first-is (omega (arith, above))

  pub arguments-fit : AreCellsOf t.params (take k (drop first held))
  arguments-fit = subst (λ (ts : List ValType). AreCellsOf ts (take k (drop first held))) params-are (subst (AreCellsOf function.ty.params) arguments-lie c.operands.fit)

  abbrev pub arguments : List Val
  arguments = values_of t.params (take k (drop first held))

  pub arguments-typed : map type_of arguments ≡ t.params
  arguments-typed = types-read t.params (take k (drop first held)) arguments-fit

  abbrev arguments_read : List Val
  arguments_read = values_of function.ty.params (operand_cells (cells_in w.ghost m) height (length function.ty.params))

  arguments-are : arguments_read ≡ arguments
  arguments-are = ap (values_of function.ty.params) arguments-lie ∙ ap (λ (ts : List ValType). values_of ts (take k (drop first held))) params-are

  -- ---- the call

  abbrev pub lent : Option ℕ
  lent = first_memory (code_store r.code) r.call.position.instance

  lent-is : lent_memory (store_around r) (frame_of g) ≡ lent
  lent-is = ap (λ (i : ℕ). first_memory (code_store r.code) i) instance-is

  -- The next step of the whole is the call, with the arguments read.
  next-read : (waiting : Configuration) → next g.store no_frame (whole there.new)
      ≡ CallsHost 1 number (lent_memory g.store (frame_of g)) arguments_read waiting → next (store_around r) no_frame (whole there.new)
      ≡ CallsHost 1 number lent arguments waiting
  next-read waiting is =
      subst (λ (o : Option ℕ). next (store_around r) no_frame (whole there.new) ≡ CallsHost 1 number o arguments waiting) lent-is
      (subst (λ (vs : List Val). next (store_around r) no_frame (whole there.new) ≡ CallsHost 1 number (lent_memory (store_around r) (frame_of g)) vs waiting) arguments-are
      (subst (λ (s : Store). next s no_frame (whole there.new) ≡ CallsHost 1 number (lent_memory s (frame_of g)) arguments_read waiting) store-is is))

  pub valid : StoreIsValid (store_around r)
  valid = subst StoreIsValid store-is c.runs.typed.valid

  typed : ConfigurationHasType (store_around r) outermost (whole there.new) w.results
  typed = subst (λ (s : Store). ConfigurationHasType s outermost (whole there.new) w.results) rests.sees.store there.runs.typed

  instance-there : IsLoaded r.code r.call.position.instance rests.world.instance
  instance-there =
      subst (λ (n : ℕ). IsLoaded r.code n rests.world.instance) rests.sees.seen_from
      (subst (λ (code : Contents). IsLoaded code rests.world.number rests.world.instance) rests.sees.code rests.sees.instance.loaded)

  -- ---- the result of the call

  module _ {H : Type 0} (host_type : H → FuncType) (Answers : H → List Val → List ℕ → Answer → List ℕ → H → Type 0) (hosts hosts' : List H)
      (waiting : Configuration) (calls-next : next (store_around r) no_frame (whole there.new) ≡ CallsHost 1 number lent arguments waiting) where
    abbrev Over : List H → ℕ → Option ℕ → List Val → Store → Answer → Store → List H → Type 0
    Over = IsHostStep host_type Answers

    abbrev at : State H
    at = run_state (store_around r) hosts (fuel_left r)

    steps-first : Steps Over bound no_frame at (whole w) at (whole there.new)
    steps-first =
        subst (λ (s : Store). Steps Over bound no_frame (run_state s hosts (fuel_left r)) (whole w) (run_state s hosts (fuel_left r)) (whole there.new)) rests.sees.store
        (steps-over Over hosts bound no_frame there.steps)

    -- The call runs out of memory.
    lacks-memory : Run Over bound no_frame at (whole w) OutOfMemory at
    lacks-memory =
        Steps-run Over bound no_frame steps-first
        (end
        (no_memory
        (subst AsksForMemory (sym calls-next) tt)
        (subst (λ (n : Next). IsWithinBound bound (depth (whole there.new)) n) (sym calls-next) tt)
        (subst (λ (n : Next). price n ≤ fuel_left r) (sym calls-next) paid)
        refl refl))

    -- The call traps.
    host-traps : (store' : Store) (why : ℕ) → Over hosts number lent arguments (store_around r) (HostTrap why) store' hosts'
        → Run Over bound no_frame at (whole w) (WithTrap (Host why)) (run_state store' hosts' (fuel_left r - 1))
    host-traps store' why told = Steps-run Over bound no_frame steps-first (end (host_trapped calls-next paid refl told refl))

    -- The call returns results.
    module _ (ready : AreReady host_type (store_around r) hosts) (state' : StateContents) (values : List Val)
        (told : Over hosts number lent arguments (store_around r) (Results values) (store_with r.code state') hosts') where
      abbrev pub store' : Store
      store' = store_with r.code state'

      good : HostCallIsGood (store_around r) outermost number arguments waiting w.results
      good = subst (IsGood (store_around r) outermost w.results) calls-next (stays-good (store_around r) outermost no_frame (whole there.new) w.results valid (refl, tt) typed)

      answer : AnswersWell Over (AreReady host_type) good.t (store_around r) (Results values) store' hosts'
      answer = hosts-answer-well host_type Answers hosts hosts' number good.address lent arguments (store_around r) store' (Results values) good.t valid ready good.is good.typed told

      one : good.t ≡ t
      one = one_type host_type hosts number good.t t (ready.typed good.address number _ good.is refl) (ready.typed address number (host_function number t) found refl)

      fit : ValuesHaveTypes (store_around r) values t.results
      fit = subst (λ (u : FuncType). ValuesHaveTypes (store_around r) values u.results) one answer.typed

      pub fit-there : ValuesHaveTypes g.store values function.ty.results
      fit-there = subst (λ (s : Store). ValuesHaveTypes s values function.ty.results) (sym store-is)
          (subst (λ (f : FunctionInstance). ValuesHaveTypes (store_around r) values f.ty.results) (sym function-is) fit)

      as-many : length values ≡ length function.ty.results
      as-many = values-length g.store values function.ty.results fit-there

      pub follows : Follows (store_around r) store'
      follows = let (bytes, done, is) = told in record { extends = answer.extends; functions = ap (λ (s : Store). s.functions) is ∙ (bytes-lent (store_around r) lent bytes).0 }

      pub same-instances : store'.instances ≡ g.store.instances
      same-instances = let (bytes, done, is) = told in ap (λ (s : Store). s.instances) is ∙ (bytes-lent (store_around r) lent bytes).1 ∙ ap (λ (s : Store). s.instances) (sym store-is)

      then-valid : StoreIsValid store'
      then-valid = answer.valid

      then-typed : ConfigurationHasType store' outermost (answered values waiting) w.results
      then-typed = configuration-extended (store_around r) store' valid answer.extends outermost (answered values waiting) w.results (good.goes_on values answer.typed)

      steps : Steps Over bound no_frame at (whole w) (run_state store' hosts' (fuel_left r - 1)) (answered values waiting)
      steps = one_more steps-first (calls calls-next paid refl told refl)

  -- ---- a call, whose results replace its arguments

  module _ (counted : counts_of c.new.code.signatures op ≡ Some (counts (c.over + length function.ty.params) (length function.ty.results)))
      (goes_on : (results : List Val) → ValuesHaveTypes c.new.store results function.ty.results
      → ConfigurationHasType c.new.store (place_of c.new)
      (in_frame (reverse results ++ drop (length function.ty.params) c.values) c.new.labels c.rest) c.new.results)
      (step : step_instruction c.new.store (frame_of c.new) op c.new.values c.rest ≡ call_function 1 c.new.store (lent_memory c.new.store (frame_of c.new)) (Some function) c.values c.rest) where
    abbrev nested : IsCalling op address function w.ghost (cells_in w.ghost m) m.place (height_in m) height
    nested = record { reached = c; counted = counted; goes_on = goes_on; step = step }

    call : IsHostCall op address function w.ghost (cells_in w.ghost m) m.place (height_in m) height number nested
    call = calls-reach-hosts op address function w.ghost (cells_in w.ghost m) m.place (height_in m) height number nested (ap (λ (f : FunctionInstance). f.implementation) function-is)

    abbrev inner : Configuration
    inner = in_frame (drop (length function.ty.params) c.values) g.labels c.rest

    abbrev pub waiting_nested : Configuration
    waiting_nested = plug (layers_of there.new) (frame_of g) inner

    pub nested-next : next (store_around r) no_frame (whole there.new) ≡ CallsHost 1 number lent arguments waiting_nested
    nested-next =
        next-read waiting_nested
        (subst (λ (f : Activated). next g.store f (whole there.new)
        ≡ CallsHost 1 number (lent_memory g.store (frame_of g)) arguments_read waiting_nested) (layers-out w.callers g.code.outermost.kept (frame_of g))
        (plugged-calls g.store (layers_of there.new) (frame_of g) 1 number (lent_memory g.store (frame_of g)) arguments_read (config_of g) inner call.calls))

    module _ {H : Type 0} (host_type : H → FuncType) (Answers : H → List Val → List ℕ → Answer → List ℕ → H → Type 0) (hosts hosts' : List H)
        (ready : AreReady host_type (store_around r) hosts) (state' : StateContents) (values : List Val)
        (told : IsHostStep host_type Answers hosts number lent arguments (store_around r) (Results values) (store_with r.code state') hosts') where
      abbrev its_store : Store
      its_store = store_with r.code state'

      abbrev new : Whole
      new = record there.new { ghost = behind_call nested its_store values }

      answered-is : answered values waiting_nested ≡ whole new
      answered-is = plugged-answered (layers_of there.new) (frame_of g) values inner ∙ ap (plug (layers_of there.new) (frame_of g)) (call.answer its_store values)

      new-typed : ConfigurationHasType its_store outermost (whole new) w.results
      new-typed = subst (λ (d : Configuration). ConfigurationHasType its_store outermost d w.results) answered-is
          (then-typed host_type Answers hosts hosts' waiting_nested nested-next ready state' values told)

      new-steps : Steps (IsHostStep host_type Answers) bound no_frame (run_state (store_around r) hosts (fuel_left r)) (whole w) (run_state its_store hosts' (fuel_left r - 1)) (whole new)
      new-steps = subst (λ (d : Configuration).
          Steps (IsHostStep host_type Answers) bound no_frame (run_state (store_around r) hosts (fuel_left r)) (whole w)
          (run_state its_store hosts' (fuel_left r - 1)) d) answered-is
          (steps host_type Answers hosts hosts' waiting_nested nested-next ready state' values told)

      -- ---- the cells after it

      many : length values ≡ length function.ty.results
      many = as-many host_type Answers hosts hosts' waiting_nested nested-next ready state' values told

      stands : StandsIn g.code (suc m.place) (reverse values ++ drop (length function.ty.params) c.values) g.labels c.rest
      stands =
          let size = length-drop (length function.ty.params) c.values in
          let over_is = c.top_is in
          let whole_top = c.runs.holds.top_is in
          let part_top = c.holds.top_is in
          let few = c.enough in
          let back = length-reverse values in
          callers-on g.code m.place g.values (drop (length function.ty.params) c.values) (reverse values) g.labels op c.rest (c.over + length function.ty.params) (length function.ty.results) counted
          (omega (arith, over_is, whole_top, part_top, few)) (omega (arith, size, over_is, whole_top, part_top, few)) (omega (arith, back, many))
          (subst (λ (body : Body). StandsIn g.code m.place g.values g.labels body) c.rest_is c.runs.stands)

      room : first + length values ≤ length m.cells
      room =
          let s = stands in
          let low = within g.code s.entries _ _ _ _ _ s.here in
          let joined = length-append (reverse values) (drop (length function.ty.params) c.values) in
          let back = length-reverse values in
          let size = length-drop (length function.ty.params) c.values in
          let part_top = c.holds.top_is in
          let few = c.enough in
          let rooms = c.runs.holds.room in
          let scrap = rests.runs.runs.scrap in
          omega (arith, low, joined, back, size, part_top, few, rooms, first-is, many-are, above, frame-size, scrap)

      abbrev cells' : List ℕ
      cells' = with_results held first values

      abbrev position' : Position
      position' = position_answered (frame_waiting r.call.position) r.call.position first values held

      abbrev m' : Machine
      m' = machine_at cells' position'

      room-held : first + length values ≤ length held
      room-held = omega (arith, room, held-size)

      size-is : length cells' ≡ length m.cells
      size-is = results-size held first values room-held ∙ held-size

      frame-is : cells_in w.ghost m' ≡ without_scrap w.ghost.code.locals m.base cells'
      frame-is = popped-frame w.ghost.code.locals m.base cells' position'.top

      frame-size' : length (cells_in w.ghost m') ≡ length (cells_in w.ghost m)
      frame-size' =
          let scrap = rests.runs.runs.scrap in
          ap (λ (z : List ℕ). length z) frame-is ∙ frame-length w.ghost.code.locals m.base cells' (omega (arith, size-is, scrap)) ∙ omega (arith, size-is, frame-size)

      height-is : height_in m' ≡ height - length function.ty.params + length values
      height-is = omega (arith, first-is, many-are, above)

      put-there : take (height_in m') (cells_in w.ghost m') ≡ take (height - length function.ty.params) (cells_in w.ghost m) ++ map cell_of values
      put-there =
          let part : height - length function.ty.params ≡ height - k = omega (arith, many-are) in
          ap (take (height_in m')) frame-is
          ∙ ap (λ (n : ℕ). take n (without_scrap w.ghost.code.locals m.base cells')) (height-is ∙ ap (λ (n : ℕ). n + length values) part)
          ∙ results-on-top held first values room-held w.ghost.code.locals m.base (height - k) first-is (omega (arith, above))
          ∙ ap (λ (n : ℕ). take n (cells_in w.ghost m) ++ map cell_of values) (sym part)

      below-is : take m.base cells' ≡ take m.base m.cells
      below-is =
          let low = rests.runs.runs.low in
          results-below held first values room-held m.base (omega (arith, first-is)) ∙ take-set-le m.base m.cells m.top m.operand (omega (arith, low))

      runs-then : (other : World) → Sees r.code its_store r.call.position.instance other → RunsWhole bound (loop_at other cells' r.call.callers position') new
      runs-then other sees = record {
        runs = record {
          runs = subst (λ (n : ℕ). Runs new.ghost (put_back n m'.base m'.cells m'.top m'.operand) m'.place (height_in m')) (sym locals-are)
              (call.goes_on its_store values (then-valid host_type Answers hosts hosts' waiting_nested nested-next ready state' values told)
              (subst (λ (s : Store). Follows s its_store) (sym store-is)
              (follows host_type Answers hosts hosts' waiting_nested nested-next ready state' values told))
              (same-instances host_type Answers hosts hosts' waiting_nested nested-next ready state' values told)
              (fit-there host_type Answers hosts hosts' waiting_nested nested-next ready state' values told)
              (cells_in w.ghost m') (m.place + 1) (height_in m') put-there frame-size' (omega arith) height-is);
          low = omega (arith, first-is, above, locals-are);
          scrap = let scrap = rests.runs.runs.scrap in omega (arith, size-is, scrap, locals-are);
          operations = there.runs.runs.operations ∙ ap operations_of
              (rests.sees.instance.flat ∙ sym
              (flat-seen r.code r.call.position.instance rests.world.instance instance-there other sees.code sees.seen_from sees.instance));
          store = sym sees.store;
          number = instance-is ∙ sym sees.seen_from;
          instance = sees.instance;
        };
        number = sym sees.seen_from;
        callers = subst (λ (code : Contents). CallersStand code (length cells') r.call.callers w.callers g.code.outermost.kept (take m.base cells')) (rests.sees.code ∙ sym sees.code)
            (subst (λ (n : ℕ). CallersStand rests.world.code n r.call.callers w.callers g.code.outermost.kept (take m.base cells')) (sym size-is)
            (subst (λ (z : List ℕ). CallersStand rests.world.code (length m.cells) r.call.callers w.callers g.code.outermost.kept z) (sym below-is) there.runs.callers));
        arity = there.runs.arity;
        deep = there.runs.deep;
        typed = subst (λ (s : Store). ConfigurationHasType s outermost (whole new) new.results) (sym sees.store) new-typed;
      }

      comes-over : (call' : Call) → call'.cells.items ≡ cells' → call'.position ≡ position' → call'.callers ≡ r.call.callers
          → ReachesWithHosts (IsHostStep host_type Answers) bound r hosts w (at_rest r.code state' call') hosts'
      comes-over call' cells_is position_is callers_is =
          let (other, sees) = seen-from r.code state' r.call.position.instance (rests.world.instance, instance-there) in record {
            new = new;
            results = refl;
            steps = subst (λ (n : ℕ). Steps (IsHostStep host_type Answers) bound no_frame (run_state (store_around r) hosts (fuel_left r)) (whole w)
                (run_state its_store hosts' n) (whole new)) (sym (ap (λ (p : Position). p.fuel) position_is)) new-steps;
            rests = record {
              world = other;
              sees = subst (λ (i : ℕ). Sees r.code its_store i other) (sym (ap (λ (p : Position). p.instance) position_is)) sees;
              runs = subst (λ (z : List ℕ). RunsWhole bound (loop_at other z call'.callers call'.position) new) (sym cells_is)
                  (subst (λ (fs : List Frame). RunsWhole bound (loop_at other cells' fs call'.position) new) (sym callers_is)
                  (subst (λ (p : Position). RunsWhole bound (loop_at other cells' r.call.callers p) new) (sym position_is) (runs-then other sees)));
            };
          }

  -- ---- a tail call, whose results replace the frame

  module _ (results_are : function.ty.results ≡ c.new.results)
      (step : step_instruction c.new.store (frame_of c.new) op c.new.values c.rest
      ≡ TailCalls (lent_memory c.new.store (frame_of c.new)) function c.values) where
    abbrev last : IsTailCalling op address function w.ghost (cells_in w.ghost m) m.place (height_in m) height
    last = record { reached = c; results = results_are; step = step }

    -- What waits around the frame.
    abbrev waiting_around : List Caller → Configuration
    waiting_around [] = Running [] Empty
    waiting_around (b ∷ bs) = plug (around b.labels (layers_around bs b.code.outermost.kept)) (record { instance = Some b.instance; locals = b.locals }) (Running b.values b.rest)

    reaches-host : (outer : Activated) (activation : Activation) → next g.store outer (InFrame activation (frame_of g) (config_of g))
        ≡ CallsHost 1 number (lent_memory g.store (frame_of g)) arguments_read (Running activation.values activation.rest)
    reaches-host = tail-calls-reach-hosts op address function w.ghost (cells_in w.ghost m) m.place (height_in m) height number last (ap (λ (f : FunctionInstance). f.implementation) function-is)

    next-around : (bs : List Caller) (arity : ℕ) → next g.store no_frame (plug (layers_around bs arity) (frame_of g) (config_of g))
        ≡ CallsHost 1 number (lent_memory g.store (frame_of g)) arguments_read (waiting_around bs)
    next-around [] arity = reaches-host no_frame (activation_of arity [] Empty)
    next-around (b ∷ bs) arity =
        let outer : Activated = record { instance = Some b.instance; locals = b.locals } in
        let layers : List Layer = around b.labels (layers_around bs b.code.outermost.kept) in
        subst (λ (f : Activated). next g.store f (plug layers outer (InFrame (activation_of arity b.values b.rest) (frame_of g) (config_of g)))
        ≡ CallsHost 1 number (lent_memory g.store (frame_of g)) arguments_read (plug layers outer (Running b.values b.rest)))
        (layers-out (b ∷ bs) arity outer)
        (plugged-calls g.store layers outer 1 number (lent_memory g.store (frame_of g)) arguments_read
        (InFrame (activation_of arity b.values b.rest) (frame_of g) (config_of g)) (Running b.values b.rest)
        (reaches-host outer (activation_of arity b.values b.rest)))

    pub last-next : next (store_around r) no_frame (whole there.new) ≡ CallsHost 1 number lent arguments (waiting_around w.callers)
    last-next = next-read (waiting_around w.callers) (next-around w.callers g.code.outermost.kept)

    module _ {H : Type 0} (host_type : H → FuncType) (Answers : H → List Val → List ℕ → Answer → List ℕ → H → Type 0) (hosts hosts' : List H)
        (ready : AreReady host_type (store_around r) hosts) (state' : StateContents) (values : List Val)
        (told : IsHostStep host_type Answers hosts number lent arguments (store_around r) (Results values) (store_with r.code state') hosts') where
      abbrev then_store : Store
      then_store = store_with r.code state'

      abbrev LeadsOn : Configuration → Type 0
      LeadsOn x = Steps (IsHostStep host_type Answers) bound no_frame (run_state (store_around r) hosts (fuel_left r)) (whole w) (run_state then_store hosts' (fuel_left r - 1)) x

      last-steps : LeadsOn (answered values (waiting_around w.callers))
      last-steps = steps host_type Answers hosts hosts' (waiting_around w.callers) last-next ready state' values told

      last-typed : ConfigurationHasType then_store outermost (answered values (waiting_around w.callers)) w.results
      last-typed = then-typed host_type Answers hosts hosts' (waiting_around w.callers) last-next ready state' values told

      -- The number of results is that of the frame.
      last-many : length (reverse values) ≡ g.code.outermost.kept
      last-many =
          let given = as-many host_type Answers hosts hosts' (waiting_around w.callers) last-next ready state' values told in
          let same = ap (λ (ts : List ValType). length ts) results_are in
          let arity = there.runs.arity in
          omega (arith, given, same, arity, length-reverse values)

      -- ---- no frame waits

      ends-alone : (bs : List Caller) → CallersStand rests.world.code (length m.cells) [] bs g.code.outermost.kept (take m.base m.cells)
          → answered values (waiting_around bs) ≡ Running (reverse values) Empty
      ends-alone [] stand = ap (λ (vs : List Val). Running vs Empty) (append-nil (reverse values))
      ends-alone (b ∷ bs) stand = absurd stand

      ends-with : r.call.callers ≡ []
          → Run (IsHostStep host_type Answers) bound no_frame (run_state (store_around r) hosts (fuel_left r)) (whole w) (WithValues values)
          (run_state then_store hosts' (fuel_left r - 1))
      ends-with none =
          let stand = subst (λ (fs : List Frame). CallersStand rests.world.code (length m.cells) fs w.callers g.code.outermost.kept (take m.base m.cells)) none there.runs.callers in
          Steps-run (IsHostStep host_type Answers) bound no_frame (subst LeadsOn (ends-alone w.callers stand) last-steps) (end (values_left refl (ap WithValues (sym (reverse-reverse values))) refl))

      -- ---- a frame waits

      module _ (frame : Frame) (others : List Frame) (are : r.call.callers ≡ frame ∷ others) where
        abbrev Stand : List Caller → Type 0
        Stand bs = CallersStand rests.world.code (length m.cells) (frame ∷ others) bs g.code.outermost.kept (take m.base m.cells)

        stand-so : Stand w.callers
        stand-so = subst (λ (fs : List Frame). CallersStand rests.world.code (length m.cells) fs w.callers g.code.outermost.kept (take m.base m.cells)) are there.runs.callers

        abbrev base : ℕ
        base = r.call.position.base

        module _ (b : Caller) (bs : List Caller) (stand : Stand (b ∷ bs)) where
          abbrev stands_by : CallerStands rests.world.code (length m.cells) frame b g.code.outermost.kept (take m.base m.cells)
          stands_by = stand.0

          begins-at : base ≡ suc (frame.base + b.code.locals) + held_values b
          begins-at = base-is rests.world m w.ghost rests.runs.runs 0 (omega arith) rests.world.code frame b g.code.outermost.kept stands_by

          module _ (typed_all : ConfigurationHasType then_store outermost (answered values (waiting_around (b ∷ bs))) w.results) where
            abbrev outer : Activated
            outer = record { instance = Some b.instance; locals = b.locals }

            abbrev then_runs : Configuration
            then_runs = in_frame (reverse values ++ b.values) b.labels b.rest

            answered-around : answered values (waiting_around (b ∷ bs)) ≡ plug (layers_around bs b.code.outermost.kept) outer then_runs
            answered-around =
                plugged-answered (around b.labels (layers_around bs b.code.outermost.kept)) outer values (Running b.values b.rest)
                ∙ plug-around b.labels (layers_around bs b.code.outermost.kept) outer (Running (reverse values ++ b.values) b.rest)

            whole-typed : ConfigurationHasType then_store outermost (plug (layers_around bs b.code.outermost.kept) outer then_runs) w.results
            whole-typed = subst (λ (x : Configuration). ConfigurationHasType then_store outermost x w.results) answered-around typed_all

            record Resumed : Type 0 where
              pub given : List ValType
              pub types : List ValType
              pub arity_is : b.code.outermost.kept ≡ length given
              pub own : ValuesHaveTypes then_store b.locals types
              pub typed : ConfigurationHasType then_store (inside_frame (Some b.instance) types given) then_runs given

            resumed : Resumed
            resumed =
                let (given, types, arity_is, own, typed) = frame-typed then_store bs b.code.outermost.kept outer then_runs w.results whole-typed in
                record { given = given; types = types; arity_is = arity_is; own = own; typed = typed }

            -- The instance's context is that of the code.
            its-context : AreOfContext b.code.signatures (instance_context (code_store r.code) (instance_of (code_store r.code) (Some b.instance)))
            its-context = subst (λ (code : Contents).
                AreOfContext b.code.signatures (instance_context (code_store code) (instance_of (code_store code) (Some b.instance)))) rests.sees.code
                stands_by.signatures

            valid-then : StoreIsValid then_store
            valid-then = then-valid host_type Answers hosts hosts' (waiting_around w.callers) last-next ready state' values told

            room-back : frame.base + b.code.locals + held_values b + length (reverse values) < length m.cells
            room-back =
                caller-room rests.world.code (length m.cells) frame b g.code.outermost.kept (take m.base m.cells) stands_by then_store valid-then
                resumed.types resumed.given resumed.own its-context.types its-context.functions
                (reverse values) last-many resumed.typed

            room-held-back : base + length values ≤ length held
            room-held-back = omega (arith, room-back, begins-at, length-reverse values, held-size)

            abbrev cells_back : List ℕ
            cells_back = with_results held base values

            abbrev position_back : Position
            position_back = position_answered frame r.call.position base values held

            abbrev height_back : ℕ
            height_back = b.code.locals + held_values b

            cells-back : take (height_back + length (reverse values)) (put_back b.code.locals frame.base cells_back position_back.top position_back.operand)
                ≡ map cell_of b.locals ++ cells_of ((reverse values ++ b.values) ++ values_under b.labels)
            cells-back =
                ap (take (height_back + length (reverse values))) (popped-frame b.code.locals frame.base cells_back position_back.top)
                ∙ ap (λ (n : ℕ). take (height_back + n) (without_scrap b.code.locals frame.base cells_back)) (length-reverse values)
                ∙ results-on-top held base values room-held-back b.code.locals frame.base height_back (omega (arith, begins-at)) (omega arith)
                ∙ ap (λ (z : List ℕ). z ++ map cell_of values) (caller-held rests.world m w.ghost rests.runs.runs 0 (omega arith) rests.world.code frame b g.code.outermost.kept stands_by)
                ∙ ap (λ (z : List ℕ). (map cell_of b.locals ++ cells_of (b.values ++ values_under b.labels)) ++ z) (sym (reverse-reverse (map cell_of values)) ∙ ap reverse (sym (map-reversed values)))
                ∙ append_assoc (map cell_of b.locals) (cells_of (b.values ++ values_under b.labels)) (cells_of (reverse values))
                ∙ ap (λ (z : List ℕ). map cell_of b.locals ++ z) (sym (cells-joined (reverse values) (b.values ++ values_under b.labels)))
                ∙ ap (λ (vs : List Val). map cell_of b.locals ++ cells_of vs) (sym (append_assoc (reverse values) b.values (values_under b.labels)))

            size-back : length cells_back ≡ length m.cells
            size-back = results-size held base values room-held-back ∙ held-size

            under-back : take frame.base cells_back ≡ take frame.base (take m.base m.cells)
            under-back =
                let low = rests.runs.runs.low in
                results-below held base values room-held-back frame.base (omega (arith, begins-at)) ∙ take-set-le frame.base m.cells m.top m.operand (omega (arith, begins-at, low))
                ∙ sym (take-take frame.base m.base m.cells (omega (arith, begins-at)))

            abbrev new_back : Whole
            new_back = record { ghost = ghost_resumed b then_store resumed.types resumed.given (reverse values); callers = bs; results = w.results }

            runs-back : (other : World) → Sees r.code then_store frame.instance other → RunsWhole bound (loop_at other cells_back others position_back) new_back
            runs-back other sees = record {
              runs =
                  caller-runs rests.world.code (length m.cells) frame b g.code.outermost.kept (take m.base m.cells) stands_by then_store valid-then
                  resumed.types resumed.given resumed.own its-context.types its-context.functions
                  (reverse values) last-many resumed.typed cells_back position_back.top position_back.operand size-back
                  (omega (arith, begins-at, length-reverse values)) cells-back other sees.store (sees.code ∙ sym rests.sees.code) sees.seen_from
                  sees.instance;
              number = sym sees.seen_from;
              callers = subst (λ (code : Contents). CallersStand code (length cells_back) others bs b.code.outermost.kept (take frame.base cells_back)) (rests.sees.code ∙ sym sees.code)
                  (subst (λ (n : ℕ). CallersStand rests.world.code n others bs b.code.outermost.kept (take frame.base cells_back)) (sym size-back)
                  (subst (λ (z : List ℕ). CallersStand rests.world.code (length m.cells) others bs b.code.outermost.kept z) (sym under-back) stand.1));
              arity = resumed.arity_is;
              deep = let deep = rests.runs.deep in let count = ap (λ (fs : List Frame). length fs) are in omega (arith, deep, count);
              typed = subst (λ (s : Store). ConfigurationHasType s outermost (whole new_back) w.results) (sym sees.store) whole-typed;
            }

            frame-there : IsLoaded r.code frame.instance stands_by.instance
            frame-there =
                subst (λ (n : ℕ). IsLoaded r.code n stands_by.instance) (sym stands_by.number)
                (subst (λ (code : Contents). IsLoaded code b.instance stands_by.instance) rests.sees.code stands_by.loaded)

            goes-back : LeadsOn (answered values (waiting_around (b ∷ bs))) → (call' : Call) → call'.cells.items ≡ cells_back → call'.position
                ≡ position_back → call'.callers ≡ others → ReachesWithHosts (IsHostStep host_type Answers) bound r hosts w (at_rest r.code state' call') hosts'
            goes-back steps_all call' cells_is position_is callers_is =
                let (other, sees) = seen-from r.code state' frame.instance (stands_by.instance, frame-there) in record {
                  new = new_back;
                  results = refl;
                  steps = subst (λ (n : ℕ). Steps (IsHostStep host_type Answers) bound no_frame (run_state (store_around r) hosts (fuel_left r))
                      (whole w) (run_state then_store hosts' n) (whole new_back)) (sym (ap (λ (p : Position). p.fuel) position_is))
                      (subst LeadsOn answered-around steps_all);
                  rests = record {
                    world = other;
                    sees = subst (λ (i : ℕ). Sees r.code then_store i other) (sym (ap (λ (p : Position). p.instance) position_is)) sees;
                    runs = subst (λ (z : List ℕ). RunsWhole bound (loop_at other z call'.callers call'.position) new_back) (sym cells_is)
                        (subst (λ (fs : List Frame). RunsWhole bound (loop_at other cells_back fs call'.position) new_back) (sym callers_is)
                        (subst (λ (p : Position). RunsWhole bound (loop_at other cells_back others p) new_back) (sym position_is) (runs-back other sees)));
                  };
                }

        fits-by : (bs : List Caller) → Stand bs → ConfigurationHasType then_store outermost (answered values (waiting_around bs)) w.results → (1 ≤ base) × (base + length values ≤ length held)
        fits-by [] stand typed_all = absurd stand
        fits-by (b ∷ bs) stand typed_all = let at = begins-at b bs stand in (omega (arith, at), room-held-back b bs stand typed_all)

        last-fits : (1 ≤ base) × (base + length values ≤ length held)
        last-fits = fits-by w.callers stand-so last-typed

        comes-by : (bs : List Caller) → Stand bs → ConfigurationHasType then_store outermost (answered values (waiting_around bs)) w.results → LeadsOn (answered values (waiting_around bs))
            → (call' : Call) → call'.cells.items ≡ with_results held base values → call'.position
            ≡ position_answered frame r.call.position base values held → call'.callers ≡ others
            → ReachesWithHosts (IsHostStep host_type Answers) bound r hosts w (at_rest r.code state' call') hosts'
        comes-by [] stand typed_all steps_all call' cells_is position_is callers_is = absurd stand
        comes-by (b ∷ bs) stand typed_all steps_all call' cells_is position_is callers_is = goes-back b bs stand typed_all steps_all call' cells_is position_is callers_is

        comes-back : (call' : Call) → call'.cells.items ≡ with_results held base values → call'.position
            ≡ position_answered frame r.call.position base values held → call'.callers ≡ others
            → ReachesWithHosts (IsHostStep host_type Answers) bound r hosts w (at_rest r.code state' call') hosts'
        comes-back call' cells_is position_is callers_is = comes-by w.callers stand-so last-typed last-steps call' cells_is position_is callers_is

-- ---- what a call waits for

module _ (bound : ℕ) (r : AtRest) (w : Whole) (kind : CallKind) (address behind : ℕ) (wait : WaitsForHost bound r w kind address behind) where
  abbrev n : CallsHostNext (fuel_left r) (machine_of r) w kind address behind
  n = wait.next

  abbrev d : ReachesCall wait.next.op address wait.next.function w.ghost (cells_in w.ghost (machine_of r)) (machine_of r).place (height_in (machine_of r)) wait.next.height
  d = reached-by kind wait.next.op address wait.next.function w.ghost (cells_in w.ghost (machine_of r)) (machine_of r).place (height_in (machine_of r)) wait.next.height wait.next.calls

  module _ (number : ℕ) (t : FuncType) (found : slice_get (functions_in r.code) address ≡ Some (host_function number t)) where
    pub arguments-fit-there : AreCellsOf t.params (take (length t.params) (drop (behind - length t.params) (cells_held r)))
    arguments-fit-there = arguments-fit bound r w wait.rests n.op address n.function n.height behind n.lies n.paid d number t found

    abbrev pub arguments_there : List Val
    arguments_there = values_of t.params (take (length t.params) (drop (behind - length t.params) (cells_held r)))

    pub types-there : map type_of arguments_there ≡ t.params
    types-there = arguments-typed bound r w wait.rests n.op address n.function n.height behind n.lies n.paid d number t found

    pub behind-there : (length t.params ≤ behind) × (behind ≤ length (machine_of r).cells)
    behind-there = (
      enough bound r w wait.rests n.op address n.function n.height behind n.lies n.paid d number t found,
      behind-inside bound r w wait.rests n.op address n.function n.height behind n.lies n.paid d number t found,
    )

-- The result of the call, of either kind.
module _ (bound : ℕ) (r : AtRest) (w : Whole) (address behind : ℕ) (number : ℕ) (t : FuncType) (found : slice_get (functions_in r.code) address ≡ Some (host_function number t))
    {H : Type 0} (host_type : H → FuncType) (Answers : H → List Val → List ℕ → Answer → List ℕ → H → Type 0) (hosts hosts' : List H) where
  abbrev its_lent : Option ℕ
  its_lent = first_memory (code_store r.code) r.call.position.instance

  abbrev its_arguments : List Val
  its_arguments = values_of t.params (take (length t.params) (drop (behind - length t.params) (cells_held r)))

  abbrev HostsAnswer : List H → ℕ → Option ℕ → List Val → Store → Answer → Store → List H → Type 0
  HostsAnswer = IsHostStep host_type Answers

  abbrev start : State H
  start = run_state (store_around r) hosts (fuel_left r)

  pub out-of-memory : (kind : CallKind) → WaitsForHost bound r w kind address behind → Run HostsAnswer bound no_frame start (whole w) OutOfMemory start
  out-of-memory Nested wait =
      lacks-memory bound r w wait.rests wait.next.op address wait.next.function wait.next.height behind wait.next.lies wait.next.paid
      wait.next.calls.reached number t found host_type Answers hosts hosts' _
      (nested-next bound r w wait.rests wait.next.op address wait.next.function wait.next.height behind wait.next.lies wait.next.paid
      wait.next.calls.reached number t found wait.next.calls.counted wait.next.calls.goes_on wait.next.calls.step)
  out-of-memory Tail wait =
      lacks-memory bound r w wait.rests wait.next.op address wait.next.function wait.next.height behind wait.next.lies wait.next.paid
      wait.next.calls.reached number t found host_type Answers hosts hosts' _
      (last-next bound r w wait.rests wait.next.op address wait.next.function wait.next.height behind wait.next.lies wait.next.paid
      wait.next.calls.reached number t found wait.next.calls.results wait.next.calls.step)

  pub traps-there : (kind : CallKind) → WaitsForHost bound r w kind address behind → (store' : Store) (why : ℕ)
      → HostsAnswer hosts number its_lent its_arguments (store_around r) (HostTrap why) store' hosts'
      → Run HostsAnswer bound no_frame start (whole w) (WithTrap (Host why)) (run_state store' hosts' (fuel_left r - 1))
  traps-there Nested wait =
      host-traps bound r w wait.rests wait.next.op address wait.next.function wait.next.height behind wait.next.lies wait.next.paid
      wait.next.calls.reached number t found host_type Answers hosts hosts' _
      (nested-next bound r w wait.rests wait.next.op address wait.next.function wait.next.height behind wait.next.lies wait.next.paid
      wait.next.calls.reached number t found wait.next.calls.counted wait.next.calls.goes_on wait.next.calls.step)
  traps-there Tail wait =
      host-traps bound r w wait.rests wait.next.op address wait.next.function wait.next.height behind wait.next.lies wait.next.paid
      wait.next.calls.reached number t found host_type Answers hosts hosts' _
      (last-next bound r w wait.rests wait.next.op address wait.next.function wait.next.height behind wait.next.lies wait.next.paid
      wait.next.calls.reached number t found wait.next.calls.results wait.next.calls.step)

  module _ (ready : AreReady host_type (store_around r) hosts) (state' : StateContents) (values : List Val)
      (told : HostsAnswer hosts number its_lent its_arguments (store_around r) (Results values) (store_with r.code state') hosts') where
    -- After a call.
    module _ (wait : WaitsForHost bound r w Nested address behind) where
      pub room-behind : behind - length t.params + length values ≤ length (machine_of r).cells
      room-behind =
          room bound r w wait.rests wait.next.op address wait.next.function wait.next.height behind wait.next.lies wait.next.paid
          wait.next.calls.reached number t found wait.next.calls.counted wait.next.calls.goes_on wait.next.calls.step
          host_type Answers hosts hosts' ready state' values told

      pub comes-behind : (call' : Call) → call'.cells.items ≡ with_results (cells_held r) (behind - length t.params) values
          → call'.position ≡ position_answered (frame_waiting r.call.position) r.call.position (behind - length t.params) values (cells_held r) → call'.callers ≡ r.call.callers
          → ReachesWithHosts HostsAnswer bound r hosts w (at_rest r.code state' call') hosts'
      comes-behind =
          comes-over bound r w wait.rests wait.next.op address wait.next.function wait.next.height behind wait.next.lies wait.next.paid
          wait.next.calls.reached number t found wait.next.calls.counted wait.next.calls.goes_on wait.next.calls.step
          host_type Answers hosts hosts' ready state' values told

    -- After a tail call.
    module _ (wait : WaitsForHost bound r w Tail address behind) where
      pub ends-there : r.call.callers ≡ [] → Run HostsAnswer bound no_frame start (whole w) (WithValues values) (run_state (store_with r.code state') hosts' (fuel_left r - 1))
      ends-there =
          ends-with bound r w wait.rests wait.next.op address wait.next.function wait.next.height behind wait.next.lies wait.next.paid
          wait.next.calls.reached number t found wait.next.calls.results wait.next.calls.step
          host_type Answers hosts hosts' ready state' values told

      pub room-back-there : (frame : Frame) (others : List Frame) → r.call.callers ≡ frame ∷ others → (1 ≤ r.call.position.base) × (r.call.position.base + length values ≤ length (cells_held r))
      room-back-there =
          last-fits bound r w wait.rests wait.next.op address wait.next.function wait.next.height behind wait.next.lies wait.next.paid
          wait.next.calls.reached number t found wait.next.calls.results wait.next.calls.step
          host_type Answers hosts hosts' ready state' values told

      pub comes-back-there : (frame : Frame) (others : List Frame) → r.call.callers ≡ frame ∷ others → (call' : Call) → call'.cells.items ≡ with_results (cells_held r) r.call.position.base values
          → call'.position ≡ position_answered frame r.call.position r.call.position.base values (cells_held r) → call'.callers ≡ others
          → ReachesWithHosts HostsAnswer bound r hosts w (at_rest r.code state' call') hosts'
      comes-back-there =
          comes-back bound r w wait.rests wait.next.op address wait.next.function wait.next.height behind wait.next.lies wait.next.paid
          wait.next.calls.reached number t found wait.next.calls.results wait.next.calls.step
          host_type Answers hosts hosts' ready state' values told

-- A call returns from a host function, or ends the run there: it does one of the two.
pub comes-or-ends : {H U : Type 0} (HostsAnswer : List H → ℕ → Option ℕ → List Val → Store → Answer → Store → List H → Type 0) (bound : ℕ) (r : AtRest) (hosts : List H) (w : Whole)
    (r' : AtRest) (hosts' : List H) (result : Result U Outcome) → IfOk result (λ u. ReachesWithHosts HostsAnswer bound r hosts w r' hosts')
    → IfErr result (λ outcome. Run HostsAnswer bound no_frame (run_state (store_around r) hosts (fuel_left r)) (whole w) (ending_of outcome) (run_state (store_around r') hosts' (fuel_left r')))
    → ReachesWithHostsOrEnds HostsAnswer bound r hosts w result r' hosts'
comes-or-ends HostsAnswer bound r hosts w r' hosts' (Ok u) comes ends = comes
comes-or-ends HostsAnswer bound r hosts w r' hosts' (Err outcome) comes ends = ends
