-- What a call finds: its function, and the arguments on top.
use Rattle.std.proofs.Common.{◌≡◌, ℕ, ◌+◌, ◌-◌, ◌≤◌, List, ◌++◌, true, length, map, drop, reverse, Option, Some, slice_get, refl, ap, sym, subst, ◌∙◌, arith}
use Rattle.std.proofs.lemmas.List.{length-map, length-reverse}
use Rattle.std.proofs.lemmas.Option.{same_Some}
use Rattle.core_types.specs.declared.op.ControlOp.TheVariants as control
use Rattle.core_types.specs.declared.op.PlainOp.{PlainOp}
use Rattle.core_types.specs.declared.op.PlainOp.TheVariants as plain
use Rattle.core_types.specs.declared.outcome.Val.{Val}
use Rattle.core_types.specs.declared.types.FuncType.{FuncType}
use Rattle.core_types.specs.declared.types.ValType.{ValType}
use Rattle.meaning.specs.structure.Bodies.{Body, Then}
use Rattle.meaning.specs.execution.Configurations.{Activation, Frame, InFrame, Running}
use Rattle.meaning.specs.execution.Instructions.{CallsHost, Goes, Grows, Next, NotReady, Opens, TailCalls, Traps, call_function, call_implementation, in_place}
use Rattle.meaning.specs.execution.Instructions.{lent_memory, next, step_in_frame, step_instruction, tail_call, topmost}
use Rattle.meaning.specs.execution.Runs.{price}
use Rattle.meaning.specs.execution.Store.{FunctionInstance, Implementation, InCode, InHost, Store, instance_of, item_of}
use Rattle.meaning.specs.execution.Values.{type_of}
use Rattle.meaning.specs.soundness.Values.{ValuesHaveTypes}
use Rattle.meaning.specs.validation.Types.{are_same_types}
use Rattle.meaning.proofs.lemmas.Layers.{if-at-most}
use Rattle.meaning.proofs.lemmas.SameTypes.{types_decided}
use Rattle.soundness.specs.Configurations.{ConfigurationHasType}
use Rattle.soundness.specs.Places.{RunsOn, outermost}
use Rattle.soundness.specs.Stores.{FunctionIsValid}
use Rattle.soundness.proofs.Calls.{arguments-typed, enough}
use Rattle.soundness.proofs.Control.{types-on-top}
use Rattle.soundness.proofs.Extension.{instance-valid, types-found}
use Rattle.soundness.proofs.Operands.{operands-on-top}
use Rattle.soundness.proofs.Values.{All-at, types-of-values, values-joined, values-parts, values-reversed}
use Rattle.sidetable.specs.Counts.{counts, counts_of, counts_of_type}
use Rattle.cells.specs.Cells.{cell_of}
use Rattle.simulation.specs.Callees.{CallsByName, CostsAround, IsCalling, IsTailCalling, ReachesCall, TailCallsByName}
use Rattle.simulation.specs.Outcomes.{HasOperands}
use Rattle.simulation.specs.Runs.{Ghost, Holds, config_of, frame_of, place_of}
use Rattle.simulation.specs.Settling.{in_frame}
use Rattle.simulation.specs.Standing.{values_under}
use Rattle.simulation.proofs.Calls.{arguments_on, arguments-same, placed}
use Rattle.simulation.proofs.OperandCells.{operands-fit}
use Rattle.simulation.proofs.Operands.{Reads, reads}
use Rattle.simulation.proofs.Plain.{AtPlain, CostsOne, at-plain, found, here, labels-cost, top-within}
use Rattle.simulation.proofs.Typed.{Inner, all-length, leaves-steps, with_labels}

-- Arguments of the parameters' types are those of a call, which costs one unit of fuel.
implementation-costs : (store : Store) (lent : Option ℕ) (t : FuncType) (values : List Val) (rest : Body)
    → ValuesHaveTypes store (topmost t.params values) t.params → (i : Implementation) → CostsOne (call_implementation 1 store lent t i values rest)
implementation-costs store lent t values rest typed (InCode instance code) = refl
implementation-costs store lent t values rest typed (InHost number) =
    let same : are_same_types (map type_of (topmost t.params values)) t.params
    ≡ true = types_decided true (map type_of (topmost t.params values)) t.params
    (λ yes. types-of-values store (topmost t.params values) t.params typed, λ e. refl) in
    rw same refl

-- A call in place costs the same.
in-place-costs : (outer : Frame) (n : Next) → CostsOne n → price (in_place outer n) ≡ 1
in-place-costs outer (Goes cost store frame c) costs = costs
in-place-costs outer (Grows cost store frame c) costs = costs
in-place-costs outer (Opens cost store c) costs = costs
in-place-costs outer (CallsHost cost number lent arguments c) costs = costs
in-place-costs outer (Traps cost trap) costs = costs
in-place-costs outer other costs = absurd costs

-- A step that costs one unit in a frame costs one unit around it.
frame-costs : (store : Store) (outer own : Frame) (activation : Activation) (n : Next) → CostsOne n → price (step_in_frame store outer activation own n) ≡ 1
frame-costs store outer own activation (Goes cost store' frame' c) costs = costs
frame-costs store outer own activation (Grows cost store' frame' c) costs = costs
frame-costs store outer own activation (Opens cost store' c) costs = costs
frame-costs store outer own activation (CallsHost cost number lent arguments c) costs = costs
frame-costs store outer own activation (Traps cost trap) costs = costs
frame-costs store outer own activation other costs = absurd costs

module _ (op : PlainOp) (g : Ghost) (cells : List ℕ) (at top : ℕ) (p : AtPlain op g cells at top) where
  abbrev h : Ghost
  h = here op g cells at top p

  abbrev lent : Option ℕ
  lent = lent_memory g.store (frame_of g)

  abbrev Around : Type 0
  Around = (outer : Frame) (activation : Activation) → price (next g.store outer (InFrame activation (frame_of g) (in_frame p.values p.labels (Then op p.rest)))) ≡ 1

  pub costs-around : Around → CostsAround g cells at top
  costs-around price_is = record {
    new = here op g cells at top p;
    same = record { code = refl; instance = refl; types = refl; results = refl };
    store = refl;
    steps = λ fuel. leaves-steps g.store (frame_of g) (config_of g) (config_of (here op g cells at top p)) fuel p.leaves;
    runs = p.runs;
    price_is = price_is;
  }

  -- A step in the frame.
  pub plain-around : CostsOne (step_instruction g.store (frame_of g) op p.values p.rest) → Around
  plain-around costs outer activation = frame-costs g.store outer (frame_of g) activation _ (labels-cost 1 g.store (frame_of g) p.labels (Running p.values (Then op p.rest)) costs)

  module _ (address : ℕ) (function : FunctionInstance) (there : slice_get g.store.functions address ≡ Some function)
      (values : List Val) (height over : ℕ) (top_is : top ≡ height + over) (holds : Holds (record (here op g cells at top p) { values = values }) cells height)
      (below : List ValType) (typed : ValuesHaveTypes g.store values (reverse function.ty.params ++ below)) where
    -- The arguments are below the height.
    pub arguments-fit : HasOperands (here op g cells at top p) cells height function.ty.params
    arguments-fit =
        let within = top-within _ cells at top p.runs in
        let few = enough g.store p.runs.typed.valid outermost function.ty values below typed in
        let zero_off : height - 0 ≡ height = omega arith in
        let size = length-map g.locals cell_of in
        let all = all-length values p.labels in
        let height_is = holds.top_is in
        let high : height ≡ length (map cell_of g.locals) + length (values ++ values_under p.labels) = omega (arith, size, all, height_is) in
        let inside : height ≤ length cells = omega (arith, within, top_is) in
        let r : Reads g.store p.runs.typed.valid.few.functions cells (map cell_of g.locals) height inside (values_under p.labels) below 0 (reverse function.ty.params) values =
        reads g.store p.runs.typed.valid.few.functions cells (map cell_of g.locals) height inside (values_under p.labels) below 0
        (reverse function.ty.params) values typed (rw zero_off holds.held) (rw zero_off high) in
        operands-fit (here op g cells at top p) cells height function.ty.params (omega (arith, few, height_is)) inside r.fits

    abbrev pub reaching : ReachesCall op address function g cells at top height
    reaching = record {
      new = here op g cells at top p;
      same = record { code = refl; instance = refl; types = refl; results = refl };
      store = refl;
      steps = λ fuel. leaves-steps g.store (frame_of g) (config_of g) (config_of (here op g cells at top p)) fuel p.leaves;
      runs = p.runs;
      rest = p.rest;
      rest_is = refl;
      there = there;
      valid = All-at (FunctionIsValid g.store) g.store.functions address function there p.runs.typed.valid.functions;
      values = values;
      over = over;
      top_is = top_is;
      holds = holds;
      below = below;
      typed = typed;
      enough = enough g.store p.runs.typed.valid outermost function.ty values below typed;
      operands = arguments-fit;
    }

    arguments-of : ValuesHaveTypes g.store (topmost function.ty.params values) function.ty.params
    arguments-of = arguments-typed g.store p.runs.typed.valid outermost function.ty values below typed

    -- ---- a call

    module _ (counted : counts_of g.code.signatures op ≡ Some (counts (over + length function.ty.params) (length function.ty.results)))
        (f : Inner (here op g cells at top p)) (runs : RunsOn g.store (with_labels (place_of g) f.carried) p.rest (reverse function.ty.results ++ below) f.given)
        (step : step_instruction g.store (frame_of g) op p.values p.rest ≡ call_function 1 g.store (lent_memory g.store (frame_of g)) (Some function) values p.rest) where
      -- With results on what is below the arguments, the rest is typed.
      pub goes-behind : (results : List Val) → ValuesHaveTypes g.store results function.ty.results
          → ConfigurationHasType g.store (place_of g) (in_frame (reverse results ++ drop (length function.ty.params) values) p.labels p.rest) g.results
      goes-behind results fit =
          let parts = rw (length-reverse function.ty.params) at (values-parts g.store values (reverse function.ty.params) below typed) in
          f.filled (Running (reverse results ++ drop (length function.ty.params) values) p.rest) (
            reverse function.ty.results ++ below,
            values-joined g.store (reverse results) (drop (length function.ty.params) values) (reverse function.ty.results) below
                (values-reversed g.store results function.ty.results fit) parts.1,
            runs,
          )

      abbrev pub calling : IsCalling op address function g cells at top height
      calling = record { reached = reaching; counted = counted; goes_on = goes-behind; step = step }

      -- A call costs one unit of fuel.
      pub call-costs : CostsOne (step_instruction g.store (frame_of g) op p.values p.rest)
      call-costs =
          subst CostsOne
          (sym (step ∙ if-at-most (length function.ty.params) (length values)
          (call_implementation 1 g.store lent function.ty function.implementation values p.rest) NotReady
          (enough g.store p.runs.typed.valid outermost function.ty values below typed)))
          (implementation-costs g.store lent function.ty values p.rest arguments-of function.implementation)

    -- ---- a tail call

    module _ (results : function.ty.results ≡ g.results) (step : step_instruction g.store (frame_of g) op p.values p.rest ≡ TailCalls (lent_memory g.store (frame_of g)) function values) where
      abbrev pub tail-calling : IsTailCalling op address function g cells at top height
      tail-calling = record { reached = reaching; results = results; step = step }

      -- The tail call costs one unit at its frame.
      pub tail-call-around : Around
      tail-call-around outer activation =
          let few = enough g.store p.runs.typed.valid outermost function.ty values below typed in
          let typed_on : ValuesHaveTypes g.store (topmost function.ty.params (arguments_on function.ty values activation.values)) function.ty.params =
          subst (λ (vs : List Val). ValuesHaveTypes g.store vs function.ty.params) (sym (arguments-same function.ty values activation.values few)) arguments-of in
          ap price (placed g.store outer (frame_of g) activation op lent function p.values values p.labels p.rest step few)
          ∙ in-place-costs outer (call_implementation 1 g.store lent function.ty function.implementation (arguments_on function.ty values activation.values) activation.rest)
          (implementation-costs g.store lent function.ty (arguments_on function.ty values activation.values) activation.rest typed_on function.implementation)

-- ---- by name

module _ (g : Ghost) (cells : List ℕ) (at top x : ℕ) (p : AtPlain (plain.Control (control.Call x)) g cells at top) where
  -- The function exists, and the call is of it.
  record Named : Type 0 where
    pub inside : Inner (here (plain.Control (control.Call x)) g cells at top p)
    pub address : ℕ
    pub function : FunctionInstance
    pub named : slice_get (instance_of g.store (Some g.instance)).functions x ≡ Some address
    pub there : slice_get g.store.functions address ≡ Some function
    pub below : List ValType
    pub typed : ValuesHaveTypes g.store p.values (reverse function.ty.params ++ below)
    pub counted : counts_of g.code.signatures (plain.Control (control.Call x)) ≡ Some (counts (0 + length function.ty.params) (length function.ty.results))
    pub runs : RunsOn g.store (with_labels (place_of g) inside.carried) p.rest (reverse function.ty.results ++ below) inside.given
    pub step : step_instruction g.store (frame_of g) (plain.Control (control.Call x)) p.values p.rest ≡ call_function 1 g.store (lent_memory g.store (frame_of g)) (Some function) p.values p.rest

  find-named : Named
  find-named =
      let f : Inner (here (plain.Control (control.Call x)) g cells at top p) = found (plain.Control (control.Call x)) g cells at top p in
      let (operands, results, between, (t, is, type), frames, runs) = f.runs in
      let (below, stack_is, between_is) = operands-on-top f.stack t operands results between type frames in
      let (address, h, named, there, same) = types-found _ _ g.store.functions (instance_of g.store (Some g.instance)).functions x t
      (instance-valid g.store p.runs.typed.valid (Some g.instance)).functions is in
      let found_is : item_of g.store.functions (slice_get (instance_of g.store (Some g.instance)).functions x) ≡ Some h = ap (λ (o : Option ℕ). item_of g.store.functions o) named ∙ there in
      let many : length t.params ≡ 0 + length h.ty.params = omega (arith, ap (λ (u : FuncType). length u.params) same) in record {
        inside = f;
        address = address;
        function = h;
        named = named;
        there = there;
        below = below;
        typed = subst (λ (ts : List ValType). ValuesHaveTypes g.store p.values ts) (stack_is ∙ ap (λ (u : FuncType). reverse u.params ++ below) (sym same)) f.values;
        counted = ap (λ (ts : List FuncType). Some (counts_of_type (slice_get ts x))) (sym p.runs.typed.functions) ∙ ap (λ (o : Option FuncType). Some (counts_of_type o)) is
            ∙ ap (λ (n : ℕ). Some (counts n (length t.results))) many ∙ ap (λ (u : FuncType). Some (counts (0 + length h.ty.params) (length u.results))) (sym same);
        runs = subst (λ (u : FuncType). RunsOn g.store (with_labels (place_of g) f.carried) p.rest (reverse u.results ++ below) f.given) (sym same) (rw between_is at runs);
        step = ap (λ (o : Option FunctionInstance). call_function 1 g.store (lent_memory g.store (frame_of g)) o p.values p.rest) found_is;
      }

  module _ (n : Named) where
    abbrev named-call : IsCalling (plain.Control (control.Call x)) n.address n.function g cells at top top
    named-call = calling (plain.Control (control.Call x)) g cells at top p n.address n.function n.there p.values top 0 (omega arith) p.runs.holds n.below n.typed n.counted n.inside n.runs n.step

    named-around : CostsAround g cells at top
    named-around =
        costs-around (plain.Control (control.Call x)) g cells at top p (plain-around (plain.Control (control.Call x)) g cells at top p
        (call-costs (plain.Control (control.Call x)) g cells at top p n.address n.function n.there p.values top 0 (omega arith) p.runs.holds n.below n.typed n.counted n.inside n.runs n.step))

pub calls-by-name : CallsByName
calls-by-name g cells at top x b =
    let p : AtPlain (plain.Control (control.Call x)) g cells at top = at-plain (plain.Control (control.Call x)) (tt {0}) g cells at top b in
    let n : Named g cells at top x p = find-named g cells at top x p in
    ((n.address, n.function, n.named, named-call g cells at top x p n), named-around g cells at top x p n)

-- ---- by name, as a tail call

module _ (g : Ghost) (cells : List ℕ) (at top x : ℕ) (p : AtPlain (plain.Control (control.ReturnCall x)) g cells at top) where
  -- The function exists, and the tail call is of it.
  record NamedLast : Type 0 where
    pub address : ℕ
    pub function : FunctionInstance
    pub named : slice_get (instance_of g.store (Some g.instance)).functions x ≡ Some address
    pub there : slice_get g.store.functions address ≡ Some function
    pub below : List ValType
    pub typed : ValuesHaveTypes g.store p.values (reverse function.ty.params ++ below)
    pub results : function.ty.results ≡ g.results
    pub step : step_instruction g.store (frame_of g) (plain.Control (control.ReturnCall x)) p.values p.rest ≡ TailCalls (lent_memory g.store (frame_of g)) function p.values

  find-named-last : NamedLast
  find-named-last =
      let f : Inner (here (plain.Control (control.ReturnCall x)) g cells at top p) = found (plain.Control (control.ReturnCall x)) g cells at top p in
      let (operands, results, between, (t, under, is, results_are, taken), frames, runs) = f.runs in
      let (below, stack_is) = types-on-top f.stack operands results between frames under t.params taken in
      let (address, h, named, there, same) = types-found _ _ g.store.functions (instance_of g.store (Some g.instance)).functions x t
      (instance-valid g.store p.runs.typed.valid (Some g.instance)).functions is in
      let found_is : item_of g.store.functions (slice_get (instance_of g.store (Some g.instance)).functions x) ≡ Some h = ap (λ (o : Option ℕ). item_of g.store.functions o) named ∙ there in
      let given : g.results ≡ t.results = same_Some g.results t.results results_are in record {
        address = address;
        function = h;
        named = named;
        there = there;
        below = below;
        typed = subst (λ (ts : List ValType). ValuesHaveTypes g.store p.values ts) (stack_is ∙ ap (λ (u : FuncType). reverse u.params ++ below) (sym same)) f.values;
        results = ap (λ (u : FuncType). u.results) same ∙ sym given;
        step = ap (λ (o : Option FunctionInstance). tail_call (lent_memory g.store (frame_of g)) o p.values) found_is;
      }

pub tail-calls-by-name : TailCallsByName
tail-calls-by-name g cells at top x b =
    let op : PlainOp = plain.Control (control.ReturnCall x) in
    let p : AtPlain (plain.Control (control.ReturnCall x)) g cells at top = at-plain (plain.Control (control.ReturnCall x)) (tt {0}) g cells at top b in
    let n : NamedLast g cells at top x p = find-named-last g cells at top x p in (
      (n.address, n.function, n.named, tail-calling op g cells at top p n.address n.function n.there p.values top 0 (omega arith) p.runs.holds n.below n.typed n.results n.step),
      costs-around op g cells at top p (tail-call-around op g cells at top p n.address n.function n.there p.values top 0 (omega arith) p.runs.holds n.below n.typed n.results n.step),
    )
