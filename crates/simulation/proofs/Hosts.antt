-- Calls of host functions.
use Rattle.std.proofs.Common.{◌≡◌, ℕ, suc, ◌+◌, ◌-◌, ◌≤◌, List, [], ◌∷◌, ◌++◌, true, length, map, take, drop, reverse, refl, ap, sym, subst, ◌∙◌, arith, append_assoc, length-append, take-append-drop}
use Rattle.std.proofs.lemmas.List.{length-drop, length-map, length-reverse, reverse-reverse, take-append-le, take-take}
use Rattle.std.proofs.Math.Seq.{take-append_seam}
use Rattle.std.specs.Prelude.{Option, Some, None, slice_get, unwrap_or}
use Rattle.core_types.specs.declared.op.PlainOp.{PlainOp}
use Rattle.core_types.specs.declared.outcome.Val.{Val}
use Rattle.core_types.specs.declared.types.FuncType.{FuncType}
use Rattle.core_types.specs.declared.types.ValType.{ValType}
use Rattle.meaning.specs.structure.Bodies.{Body, Then}
use Rattle.meaning.specs.execution.Configurations.{Configuration, Frame, InFrame, InLabel, Label, Running, answered}
use Rattle.meaning.specs.execution.Hosts.{with_bytes}
use Rattle.meaning.specs.execution.Instructions.{CallsHost, NotReady, call_host, call_implementation, in_place, lent_memory, next, step_in_label, topmost}
use Rattle.meaning.specs.execution.Memories.{MemoryInstance}
use Rattle.meaning.specs.execution.Store.{FunctionInstance, Implementation, InHost, ModuleInstance, Store, instance_of, no_instance}
use Rattle.meaning.specs.execution.Values.{type_of}
use Rattle.meaning.specs.soundness.Values.{ValuesHaveTypes}
use Rattle.meaning.specs.validation.Types.{are_same_types}
use Rattle.meaning.proofs.lemmas.Layers.{if-at-most}
use Rattle.meaning.proofs.lemmas.SameTypes.{types_decided}
use Rattle.soundness.specs.Places.{outermost}
use Rattle.soundness.specs.Stores.{Follows, StoreIsValid}
use Rattle.soundness.proofs.Calls.{arguments-typed}
use Rattle.soundness.proofs.Extension.{configuration-extended, functions-more}
use Rattle.soundness.proofs.Values.{types-of-values, values-extended, values-length}
use Rattle.cells.specs.Cells.{cell_of, values_of}
use Rattle.simulation.specs.Callees.{CallsReachHosts, ChangesLentBytes, IsCalling, ReachesCall, TailCallsReachHosts, behind_call}
use Rattle.simulation.specs.Outcomes.{operand_cells}
use Rattle.simulation.specs.Piles.{cells_of}
use Rattle.simulation.specs.Runs.{Ghost, IsTyped, Runs, config_of, frame_of, place_of}
use Rattle.simulation.specs.Settling.{in_frame, inside_labels}
use Rattle.simulation.specs.Standing.{StandsIn, values_under}
use Rattle.simulation.proofs.Calls.{arguments_on, arguments-same, placed, under-same}
use Rattle.simulation.proofs.Cells.{argument-cells, cells-joined, cells-length, map-reversed, value-read}
use Rattle.simulation.proofs.Frames.{callers-on}
use Rattle.simulation.proofs.Typed.{all-length}

-- ---- labels and values

module _ (store : Store) (frame : Frame) where
  labels-call : (labels : List Label) (cost number : ℕ) (lent : Option ℕ) (arguments : List Val) (x y : Configuration) → next store frame x ≡ CallsHost cost number lent arguments y
      → next store frame (inside_labels labels x) ≡ CallsHost cost number lent arguments (inside_labels labels y)
  labels-call [] cost number lent arguments x y e = e
  labels-call (label ∷ labels) cost number lent arguments x y e = labels-call labels cost number lent arguments (InLabel label x) (InLabel label y) (ap (step_in_label store frame label) e)

labels-answered : (results : List Val) (labels : List Label) (x : Configuration) → answered results (inside_labels labels x) ≡ inside_labels labels (answered results x)
labels-answered results [] x = refl
labels-answered results (label ∷ labels) x = labels-answered results labels (InLabel label x)

-- Cells of values, read at their types.
values-read : (store : Store) (values : List Val) (types : List ValType) → ValuesHaveTypes store values types → values_of types (map cell_of values) ≡ values
values-read store [] [] typed = refl
values-read store [] (t ∷ types) typed = absurd typed
values-read store (v ∷ values) [] typed = absurd typed
values-read store (v ∷ values) (t ∷ types) typed = rw (value-read store v t typed.0, values-read store values types typed.1) refl

-- Without the topmost cells.
pile-low : (cells base : List ℕ) (top many : ℕ) (values lower : List Val) → take top cells ≡ base ++ cells_of (values ++ lower) → many ≤ length values
    → top ≡ length base + length (values ++ lower) → top ≤ length cells
    → take (top - many) cells ≡ base ++ cells_of (drop many values ++ lower)
pile-low cells base top many values lower held few high inside =
    sym (take-take (top - many) top cells (omega arith)) ∙ ap (take (top - many)) parts
    ∙ ap (λ (n : ℕ). take n ((base ++ cells_of (drop many values ++ lower)) ++ cells_of (take many values))) (sym size)
    ∙ take-append_seam (base ++ cells_of (drop many values ++ lower)) (cells_of (take many values))
  where
    parts : take top cells ≡ (base ++ cells_of (drop many values ++ lower)) ++ cells_of (take many values)
    parts =
        held ∙ ap (λ (vs : List Val). base ++ cells_of (vs ++ lower)) (sym (take-append-drop many values))
        ∙ ap (λ (vs : List Val). base ++ cells_of vs) (append_assoc (take many values) (drop many values) lower)
        ∙ ap (λ (z : List ℕ). base ++ z) (cells-joined (take many values) (drop many values ++ lower))
        ∙ sym (append_assoc base (cells_of (drop many values ++ lower)) (cells_of (take many values)))

    size : length (base ++ cells_of (drop many values ++ lower)) ≡ top - many
    size =
        let one = length-append base (cells_of (drop many values ++ lower)) in
        let two = cells-length (drop many values ++ lower) in
        let three = length-append (drop many values) lower in
        let four = length-drop many values in
        let five = length-append values lower in
        omega (arith, one, two, three, four, five, few, high)

-- ---- a call

-- The arguments, which are cells.
module _ (op : PlainOp) (address : ℕ) (function : FunctionInstance) (g : Ghost) (cells : List ℕ) (at top height : ℕ) (c : ReachesCall op address function g cells at top height) where
  -- The cells up to the height are those of the locals and the values.
  pile-is : height ≡ length (map cell_of c.new.locals) + length (c.values ++ values_under c.new.labels)
  pile-is = let top_is = c.holds.top_is in omega (arith, top_is, length-map c.new.locals cell_of, all-length c.values c.new.labels)

  arguments-there : ValuesHaveTypes c.new.store (topmost function.ty.params c.values) function.ty.params
  arguments-there = arguments-typed c.new.store c.runs.typed.valid outermost function.ty c.values c.below c.typed

  arguments-read : topmost function.ty.params c.values ≡ values_of function.ty.params (operand_cells cells height (length function.ty.params))
  arguments-read =
      sym (values-read c.new.store (topmost function.ty.params c.values) function.ty.params arguments-there)
      ∙ ap (values_of function.ty.params) (ap (λ (vs : List Val). map cell_of (reverse vs)) (sym (take-append-le (length function.ty.params) c.values (values_under c.new.labels) c.enough))
      ∙ sym (argument-cells cells (map cell_of c.new.locals) height function.ty.params (c.values ++ values_under c.new.labels) c.holds.held
      (omega (arith, c.enough, length-append c.values (values_under c.new.labels))) pile-is c.operands.inside))

-- Arguments of the parameters' types are those of the host function.
host-called : (store : Store) (lent : Option ℕ) (number : ℕ) (t : FuncType) (values : List Val) (rest : Body) → ValuesHaveTypes store (topmost t.params values) t.params
    → call_host 1 number lent t values rest ≡ CallsHost 1 number lent (topmost t.params values) (Running (drop (length t.params) values) rest)
host-called store lent number t values rest typed =
    let same : are_same_types (map type_of (topmost t.params values)) t.params ≡ true =
    types_decided true (map type_of (topmost t.params values)) t.params (λ yes. types-of-values store (topmost t.params values) t.params typed, λ e. refl) in
    rw same refl

module _ (op : PlainOp) (address : ℕ) (function : FunctionInstance) (g : Ghost) (cells : List ℕ) (at top height number : ℕ)
    (c : IsCalling op address function g cells at top height) (is : function.implementation ≡ InHost number) where
  abbrev params : List ValType
  params = function.ty.params

  abbrev lent : Option ℕ
  lent = lent_memory c.reached.new.store (frame_of c.reached.new)

  host-calls : next c.reached.new.store (frame_of c.reached.new) (config_of c.reached.new)
      ≡ CallsHost 1 number (lent_memory c.reached.new.store (frame_of c.reached.new)) (values_of function.ty.params (operand_cells cells height (length function.ty.params)))
      (in_frame (drop (length function.ty.params) c.reached.values) c.reached.new.labels c.reached.rest)
  host-calls =
      ap (λ (body : Body). next c.reached.new.store (frame_of c.reached.new) (in_frame c.reached.new.values c.reached.new.labels body)) c.reached.rest_is
      ∙ labels-call c.reached.new.store (frame_of c.reached.new) c.reached.new.labels 1 number lent (topmost params c.reached.values)
      (Running c.reached.new.values (Then op c.reached.rest)) (Running (drop (length params) c.reached.values) c.reached.rest)
      (c.step ∙ if-at-most (length params) (length c.reached.values)
      (call_implementation 1 c.reached.new.store lent function.ty function.implementation c.reached.values c.reached.rest) NotReady c.reached.enough
      ∙ ap (λ (i : Implementation). call_implementation 1 c.reached.new.store lent function.ty i c.reached.values c.reached.rest) is
      ∙ host-called c.reached.new.store lent number function.ty c.reached.values c.reached.rest (arguments-there op address function g cells at top height c.reached))
      ∙ ap (λ (vs : List Val). CallsHost 1 number lent vs (in_frame (drop (length params) c.reached.values) c.reached.new.labels c.reached.rest))
      (arguments-read op address function g cells at top height c.reached)

  module _ (store' : Store) (results : List Val) (valid : StoreIsValid store') (more : Follows c.reached.new.store store')
      (instances : store'.instances ≡ c.reached.new.store.instances) (fit : ValuesHaveTypes c.reached.new.store results function.ty.results) where
    abbrev then : Ghost
    then = behind_call c store' results

    then-typed : IsTyped then
    then-typed =
        let same : instance_of store' (Some c.reached.new.instance)
        ≡ instance_of c.reached.new.store (Some c.reached.new.instance) = ap
        (λ (is : List ModuleInstance). unwrap_or (slice_get is c.reached.new.instance) no_instance) instances in record {
          valid = valid;
          own = values-extended c.reached.new.store store' (functions-more c.reached.new.store store' c.reached.runs.typed.valid more.extends)
              c.reached.new.locals c.reached.new.types c.reached.runs.typed.own;
          typed = configuration-extended c.reached.new.store store' c.reached.runs.typed.valid more.extends (place_of c.reached.new)
              (in_frame (reverse results ++ drop (length params) c.reached.values) c.reached.new.labels c.reached.rest) c.reached.new.results
              (c.goes_on results fit);
          types = ap (λ (i : ModuleInstance). i.types) same ∙ c.reached.runs.typed.types;
          functions = rw (same, more.functions) c.reached.runs.typed.functions;
        }

    many : length results ≡ length function.ty.results
    many = values-length c.reached.new.store results function.ty.results fit

    then-stands : StandsIn c.reached.new.code (suc at) (reverse results ++ drop (length params) c.reached.values) c.reached.new.labels c.reached.rest
    then-stands =
        let size = length-drop (length params) c.reached.values in
        let over_is = c.reached.top_is in
        let first = c.reached.runs.holds.top_is in
        let second = c.reached.holds.top_is in
        let enough = c.reached.enough in
        let back = length-reverse results in
        callers-on c.reached.new.code at c.reached.new.values (drop (length params) c.reached.values) (reverse results) c.reached.new.labels op
        c.reached.rest (c.reached.over + length params) (length function.ty.results) c.counted
        (omega (arith, over_is, first, second, enough)) (omega (arith, size, over_is, first, second, enough)) (omega (arith, back, many))
        (subst (λ (body : Body). StandsIn c.reached.new.code at c.reached.new.values c.reached.new.labels body) c.reached.rest_is c.reached.runs.stands)

    goes-behind : (cells' : List ℕ) (next_at next_top : ℕ) → take next_top cells' ≡ take (height - length params) cells ++ map cell_of results → length cells' ≡ length cells → next_at ≡ suc at
        → next_top ≡ height - length params + length results → Runs then cells' next_at next_top
    goes-behind cells' next_at next_top put size at_is top_is = record {
      stands = rw at_is then-stands;
      holds = record {
        held = put
            ∙ ap (λ (z : List ℕ). z ++ map cell_of results)
            (pile-low cells (map cell_of c.reached.new.locals) height (length params) c.reached.values (values_under c.reached.new.labels)
            c.reached.holds.held c.reached.enough (pile-is op address function g cells at top height c.reached) c.reached.operands.inside)
            ∙ append_assoc (map cell_of c.reached.new.locals) (cells_of (drop (length params) c.reached.values ++ values_under c.reached.new.labels)) (map cell_of results)
            ∙ ap (λ (z : List ℕ). map cell_of c.reached.new.locals ++ (cells_of (drop (length params) c.reached.values ++ values_under c.reached.new.labels) ++ z)) results-back
            ∙ ap (λ (z : List ℕ). map cell_of c.reached.new.locals ++ z) (sym (cells-joined (reverse results) (drop (length params) c.reached.values ++ values_under c.reached.new.labels)))
            ∙ ap (λ (vs : List Val). map cell_of c.reached.new.locals ++ cells_of vs)
            (sym (append_assoc (reverse results) (drop (length params) c.reached.values) (values_under c.reached.new.labels)));
        top_is =
            let one = c.reached.holds.top_is in
            let two = length-append (reverse results) (drop (length params) c.reached.values) in
            let three = length-reverse results in
            let four = length-drop (length params) c.reached.values in
            let five = c.reached.enough in
            omega (arith, top_is, one, two, three, four, five);
        count = c.reached.runs.holds.count;
        room = let room = c.reached.runs.holds.room in omega (arith, room, size);
      };
      typed = then-typed;
    }
      where
        results-back : map cell_of results ≡ cells_of (reverse results)
        results-back = sym (reverse-reverse (map cell_of results)) ∙ ap reverse (sym (map-reversed results))

pub calls-reach-hosts : CallsReachHosts
calls-reach-hosts op address function g cells at top height number c is = record {
  calls = host-calls op address function g cells at top height number c is;
  answer = λ store' results. labels-answered results c.reached.new.labels (Running (drop (length function.ty.params) c.reached.values) c.reached.rest);
  goes_on = λ store' results valid more instances fit. goes-behind op address function g cells at top height number c is store' results valid more instances fit;
}

-- ---- tail calls

pub tail-calls-reach-hosts : TailCallsReachHosts
tail-calls-reach-hosts op address function g cells at top height number c is outer activation =
    ap (λ (body : Body). next h.store outer (InFrame activation (frame_of h) (in_frame h.values h.labels body))) c.reached.rest_is
    ∙ placed h.store outer (frame_of h) activation op lent function h.values c.reached.values h.labels c.reached.rest c.step c.reached.enough
    ∙ ap (λ (i : Implementation). in_place outer (call_implementation 1 h.store lent t i on activation.rest)) is
    ∙ ap (in_place outer) (host-called h.store lent number t on activation.rest
    (subst (λ (vs : List Val). ValuesHaveTypes h.store vs t.params) (sym same) (arguments-there op address function g cells at top height c.reached)))
    ∙ ap (λ (vs : List Val). CallsHost 1 number lent vs (Running (drop (length t.params) on) activation.rest)) (same ∙ arguments-read op address function g cells at top height c.reached)
    ∙ ap (λ (vs : List Val). CallsHost 1 number lent (values_of t.params (operand_cells cells height (length t.params))) (Running vs activation.rest))
    (under-same t c.reached.values activation.values c.reached.enough)
  where
    h : Ghost
    h = c.reached.new

    t : FuncType
    t = function.ty

    lent : Option ℕ
    lent = lent_memory c.reached.new.store (frame_of c.reached.new)

    on : List Val
    on = arguments_on function.ty c.reached.values activation.values

    same : topmost function.ty.params (arguments_on function.ty c.reached.values activation.values) ≡ topmost function.ty.params c.reached.values
    same = arguments-same function.ty c.reached.values activation.values c.reached.enough

pub bytes-lent : ChangesLentBytes
bytes-lent store None bytes = (refl, refl)
bytes-lent store (Some address) bytes = by (slice_get store.memories address)
  where
    by : (found : Option MemoryInstance) → ((with_bytes store address found bytes).functions ≡ store.functions) × ((with_bytes store address found bytes).instances ≡ store.instances)
    by None = (refl, refl)
    by (Some memory) = (refl, refl)
