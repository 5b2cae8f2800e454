-- A called function is opened or is a host function, whatever runs.
use Rattle.std.proofs.Common.{◌≡◌, ℕ, suc, ◌+◌, ◌-◌, ◌<◌, ◌≤◌, List, length, take, set, get_or, slice_get, refl, ap, sym, subst, ◌∙◌, arith}
use Rattle.std.proofs.lemmas.List.{length-set}
use Rattle.std.proofs.lemmas.Option.{get_or_from_slice_get, same_Some}
use Rattle.std.specs.Prelude.{Option, Some, Ok, Err}
use Rattle.core_types.specs.declared.op.PlainOp.{PlainOp}
use Rattle.core_types.specs.declared.outcome.Trap.{Trap}
use Rattle.core_types.specs.declared.outcome.Val.{Val}
use Rattle.meaning.specs.execution.Configurations.{depth}
use Rattle.meaning.specs.execution.Instructions.{Next}
use Rattle.meaning.specs.structure.Bodies.{writing}
use Rattle.meaning.specs.execution.Modules.{code_of}
use Rattle.meaning.specs.execution.Runs.{AsksForMemory, IsWithinBound, price}
use Rattle.meaning.specs.execution.Store.{FunctionInstance, Store}
use Rattle.sidetable.specs.FlatModules.{IsFlat, module_signatures, operations_of}
use Rattle.sidetable.specs.SideTables.{pair_of}
use Rattle.sidetable.specs.declared.operations.PackedOp.TheVariants as op
use Rattle.sidetable.specs.declared.side_tables.IndexPair.{IndexPair}
use Rattle.simulation.specs.Callees.{IsCalling, IsTailCalling, ReachesCall}
use Rattle.simulation.specs.Runs.{Ghost, none as no_steps}
use Rattle.simulation.specs.Standing.{FrameCode}
use Rattle.store.specs.Contents.{IsCalleeAt, IsLoaded, IsOwnFunction, callee_function, function_of, functions_in, host_function, signatures_of_instance}
use Rattle.store.specs.declared.instances.Callee.{Callee}
use Rattle.store.specs.declared.instances.Callee.TheVariants as callee
use Rattle.store.specs.declared.instances.HostFunction.{HostFunction}
use Rattle.store.specs.declared.instances.ModuleFunction.{ModuleFunction}
use Rattle.store.proofs.lemmas.OwnFunctions.{own-callee}
use Rattle.interpreter.specs.Callees.{FindsEntry, IsCalled, RefersToFunction, by_name, through_table, operation_by_name, transfer_through}
use Rattle.interpreter.specs.Calling.{Calls, CallsInModule, CallsModule, ReplacesModule}
use Rattle.interpreter.specs.Layout.{put_back}
use Rattle.interpreter.specs.Looping.{loop_at, machine_at}
use Rattle.interpreter.specs.Running.{Machine, RunsAt, cells_in, height_in}
use Rattle.interpreter.specs.Operations.{CallsByName, CallsThrough, CostsOne, IsReadyFor, IsReadyForCallThrough, Executes, entry_through, function_address, type_of}
use Rattle.interpreter.specs.Whole.{AsksNext, LacksCells, Loop, OpensNext, LoopReaches, RunsSomeWhole, RunsWhole, StopsAt, Whole, whole}
use Rattle.interpreter.specs.Worlds.{World, store_in}
use Rattle.interpreter.specs.declared.callees.Found.{Found}
use Rattle.interpreter.specs.declared.machine.CallKind.{CallKind}
use Rattle.interpreter.specs.declared.machine.CallKind.TheVariants.{Nested, Tail}
use Rattle.interpreter.specs.declared.machine.Frame.{Frame}
use Rattle.interpreter.specs.declared.machine.Position.{Position}
use Rattle.interpreter.specs.declared.machine.Stop.{Stop}
use Rattle.interpreter.specs.declared.machine.Stop.TheVariants as stop
use Rattle.interpreter.proofs.Calling.{entry-calls, entry-found, entry-traps, reached-by, refers, within-code}
use Rattle.interpreter.proofs.Cells.{frame-length, popped-frame}
use Rattle.interpreter.proofs.Entering.{declared, fits, high}
use Rattle.interpreter.proofs.Finding.{IsAtAddress, flat-body}
use Rattle.interpreter.proofs.Forms.{inside, lower}
use Rattle.interpreter.proofs.Lifting.{lifted-there, reaches-first, reaches-then, stops-empty, stops-failing, stops-unpaid}
use Rattle.interpreter.proofs.Opening.{ArgumentsLie}
use Rattle.interpreter.proofs.Replacing.{asks, replaced}
use Rattle.interpreter.proofs.Waiting.{called, depth-is, opened, opens-next}

-- An operation makes this kind of call of the function at an address, with its arguments on top at another position in the frame.
record CallsFrom (w : World) (cells : List ℕ) (at from : Position) (kind : CallKind) (op : PlainOp) (address : ℕ) (function : FunctionInstance) : Type 0 where
  pub height : ℕ
  pub top_is : from.top ≡ at.base + height
  pub inside : from.top < length cells
  pub same : (g : Ghost) → RunsAt w (machine_at cells at) g → take height (put_back g.code.locals at.base cells from.top from.operand) ≡ take height (cells_in g (machine_at cells at))
  pub calls : (g : Ghost) → RunsAt w (machine_at cells at) g → IsCalled kind op address function g (cells_in g (machine_at cells at)) at.place (height_in (machine_at cells at)) height

-- What comes to a call is at the call then.
abbrev settled : (op : PlainOp) (address : ℕ) (function : FunctionInstance) (g : Ghost) (cells : List ℕ) (at top height : ℕ)
    (c : ReachesCall op address function g cells at top height) → ReachesCall op address function c.new cells at top height
settled op address function g cells at top height c = record {
  new = c.new;
  same = record { code = refl; instance = refl; types = refl; results = refl };
  store = refl;
  steps = λ fuel. no_steps;
  runs = c.runs;
  rest = c.rest;
  rest_is = c.rest_is;
  there = c.there;
  valid = c.valid;
  values = c.values;
  over = c.over;
  top_is = c.top_is;
  holds = c.holds;
  below = c.below;
  typed = c.typed;
  enough = c.enough;
  operands = c.operands;
}

calling-there : (op : PlainOp) (address : ℕ) (function : FunctionInstance) (g : Ghost) (cells : List ℕ) (at top height : ℕ)
    (c : IsCalling op address function g cells at top height) → IsCalling op address function c.reached.new cells at top height
calling-there op address function g cells at top height c = record { reached = settled op address function g cells at top height c.reached; counted = c.counted; goes_on = c.goes_on; step = c.step }

tail-calling-there : (op : PlainOp) (address : ℕ) (function : FunctionInstance) (g : Ghost) (cells : List ℕ) (at top height : ℕ)
    (c : IsTailCalling op address function g cells at top height) → IsTailCalling op address function c.reached.new cells at top height
tail-calling-there op address function g cells at top height c = record { reached = settled op address function g cells at top height c.reached; results = c.results; step = c.step }

module _ (bound : ℕ) (w : World) (cells : List ℕ) (callers : List Frame) (at from : Position) (op : PlainOp) (address : ℕ) where
  abbrev m : Machine
  m = machine_at cells at

  abbrev l : Loop
  l = loop_at w cells callers at

  -- ---- of a module

  module _ (f : ModuleFunction) (is : IsCalleeAt w.code address (callee.InModule f)) (found : IsAtAddress w.code address f) (height : ℕ)
      (top_is : from.top ≡ at.base + height) (in_cells : from.top < length cells)
      (same : (g : Ghost) → RunsAt w (machine_at cells at) g → take height (put_back g.code.locals at.base cells from.top from.operand) ≡ take height (cells_in g (machine_at cells at))) where
    abbrev function : FunctionInstance
    function = function_of f.ty.now f.instance f.func.now

    -- The whole, after labels were left.
    module _ (u : Whole) (r : RunsWhole bound l u) (c : ReachesCall op address function u.ghost (cells_in u.ghost m) m.place (height_in m) height) where
      abbrev settles : LoopReaches bound l u l
      settles = lifted-there bound l u r at.fuel (record { new = c.new; same = c.same; store = c.store; steps = c.steps at.fuel; runs = c.runs })

      -- The frame has the same number of locals then.
      as-many : cells_in u.ghost m ≡ cells_in c.new m
      as-many = ap (λ (k : FrameCode). put_back k.locals at.base cells at.top at.operand) (sym c.same.code)

      size : length (put_back c.new.code.locals at.base cells from.top from.operand) ≡ length (cells_in c.new m)
      size =
          let one = length-set cells from.top from.operand in
          let two = length-set cells at.top at.operand in
          let scrap = settles.runs.runs.scrap in
          let first = frame-length c.new.code.locals at.base (set cells from.top from.operand) (omega (arith, one, scrap)) in
          let second = frame-length c.new.code.locals at.base (set cells at.top at.operand) (omega (arith, two, scrap)) in
          omega (arith, one, two, first, second)

      abbrev arguments : ArgumentsLie op m c.new from.top from.operand f.ty.now f.instance (code_of f.func.now)
      arguments = record {
        rest = c.rest;
        rest_is = c.rest_is;
        values = c.values;
        height = height;
        over = c.over;
        above = c.top_is;
        top_is = top_is;
        holds = record {
          held = same c.new settles.runs.runs ∙ ap (take height) (sym as-many) ∙ c.holds.held;
          top_is = c.holds.top_is;
          count = c.holds.count;
          room = let room = c.holds.room in omega (arith, room, size, ap length as-many);
        };
        valid = c.valid;
        below = c.below;
        typed = c.typed;
        enough = c.enough;
      }

      fits-so : at.base + f.flat.now.params ≤ from.top
      fits-so = fits w m settles.new.ghost settles.runs.runs op from.top from.operand address f found arguments

      declared-so : f.flat.now.params ≤ f.flat.now.locals
      declared-so = declared w m settles.new.ghost settles.runs.runs op from.top from.operand address f found arguments

      high-so : f.flat.now.locals ≤ f.flat.now.greatest
      high-so = high w m settles.new.ghost settles.runs.runs op from.top from.operand address f found arguments

    -- ---- in a frame above

    module _ (calls : (g : Ghost) → RunsAt w m g → IsCalling op address function g (cells_in g m) m.place (height_in m) height) where
      module _ (u : Whole) (r : RunsWhole bound l u) where
        abbrev c : IsCalling op address function u.ghost (cells_in u.ghost m) m.place (height_in m) height
        c = calls u.ghost r.runs

        abbrev nested : LoopReaches bound l u l
        nested = settles u r c.reached

        opens : 1 ≤ at.fuel → OpensNext (store_in w) at.fuel nested.new
        opens some = record {
          then = whole (called bound w cells callers at nested.new nested.runs op from.top from.operand address f found (arguments u r c.reached) c.counted c.step);
          opens = opens-next bound w cells callers at nested.new nested.runs op from.top from.operand address f found (arguments u r c.reached) c.counted c.step;
          paid = some;
        }

        deep : depth (whole nested.new) ≡ suc (length callers)
        deep = depth-is bound w cells callers at nested.new nested.runs op from.top from.operand address f found (arguments u r c.reached) c.counted c.step

        asks-to-open : 1 ≤ at.fuel → suc (length callers) < bound → AsksNext bound (store_in w) at.fuel nested.new
        asks-to-open some shallow =
            let o : OpensNext (store_in w) at.fuel nested.new = opens some in record {
              asks = subst AsksForMemory (sym o.opens) tt;
              within = subst (λ (z : Next). IsWithinBound bound (depth (whole nested.new)) z) (sym o.opens) (let d = deep in omega (arith, d, shallow));
              enough = subst (λ (z : Next). price z ≤ at.fuel) (sym o.opens) some;
            }

        lacks-cells : length cells ≤ from.top + 1 - f.flat.now.params + f.flat.now.greatest → LacksCells w.code m nested.new
        lacks-cells past = record {
          kind = Nested;
          op = op;
          address = address;
          function = f;
          there = is;
          height = height;
          calls = subst (λ (z : List ℕ). IsCalling op address function c.reached.new z m.place (height_in m) height) (as-many u r c.reached)
              (calling-there op address function u.ghost (cells_in u.ghost m) m.place (height_in m) height c);
          past = omega (arith, past, top_is);
        }

      calls-module : RunsSomeWhole bound l → CallsModule bound w cells callers at from f
      calls-module (v, q) = record {
        room = in_cells;
        arguments = fits-so v q (calls v.ghost q.runs).reached;
        declared = declared-so v q (calls v.ghost q.runs).reached;
        high = high-so v q (calls v.ghost q.runs).reached;
        no_depth = λ some full. record { from = λ u r. stops-unpaid bound stop.NoDepth refl l l u (nested u r) (opens u r some, let d = deep u r in omega (arith, d, full)); falls = tt };
        no_room = λ some shallow past. record { from = λ u r. stops-unpaid bound stop.NoRoom refl l l u (nested u r) (asks-to-open u r some shallow, lacks-cells u r past); falls = omega arith };
        no_memory = λ some shallow. record { from = λ u r. stops-unpaid bound stop.NoMemory refl l l u (nested u r) (asks-to-open u r some shallow); falls = tt };
        opens = λ some shallow room cells' filled size u r.
            let k = calls u.ghost r.runs in
            let o = opened bound w cells callers at (nested u r).new (nested u r).runs op from.top from.operand address f found
            (arguments u r k.reached) k.counted k.step cells' filled size room some shallow in
            (o.0, λ other seen. reaches-then bound l l _ u (nested u r) (o.1 other seen));
      }

    -- ---- in the frame's place

    module _ (calls : (g : Ghost) → RunsAt w m g → IsTailCalling op address function g (cells_in g m) m.place (height_in m) height) where
      module _ (u : Whole) (r : RunsWhole bound l u) where
        abbrev tail_call : IsTailCalling op address function u.ghost (cells_in u.ghost m) m.place (height_in m) height
        tail_call = calls u.ghost r.runs

        abbrev last : LoopReaches bound l u l
        last = settles u r tail_call.reached

        asks-to-replace : 1 ≤ at.fuel → AsksNext bound (store_in w) at.fuel last.new
        asks-to-replace some = asks bound w cells callers at last.new last.runs op from.top from.operand address f found (arguments u r tail_call.reached) tail_call.results tail_call.step some

        lacks-cells-below : length cells ≤ at.base + f.flat.now.greatest → LacksCells w.code m last.new
        lacks-cells-below past = record {
          kind = Tail;
          op = op;
          address = address;
          function = f;
          there = is;
          height = height;
          calls = subst (λ (z : List ℕ). IsTailCalling op address function tail_call.reached.new z m.place (height_in m) height) (as-many u r tail_call.reached)
              (tail-calling-there op address function u.ghost (cells_in u.ghost m) m.place (height_in m) height tail_call);
          past = past;
        }

      replaces-module : RunsSomeWhole bound l → ReplacesModule bound w cells callers at from f
      replaces-module (v, q) = record {
        room = in_cells;
        arguments = fits-so v q (calls v.ghost q.runs).reached;
        declared = declared-so v q (calls v.ghost q.runs).reached;
        high = high-so v q (calls v.ghost q.runs).reached;
        no_room = λ some past. record { from = λ u r. stops-unpaid bound stop.NoRoom refl l l u (last u r) (asks-to-replace u r some, lacks-cells-below u r past); falls = omega arith };
        replaces = λ some room cells' moved u r.
            let k = calls u.ghost r.runs in
            let o = replaced bound w cells callers at (last u r).new (last u r).runs op from.top from.operand address f found (arguments u r k.reached) k.results k.step cells' moved room some in
            (o.0, λ other seen. reaches-then bound l l _ u (last u r) (o.1 other seen));
      }

  calls-in-module : (kind : CallKind) (f : ModuleFunction) → IsCalleeAt w.code address (callee.InModule f) → IsAtAddress w.code address f
      → CallsFrom w cells at from kind op address (function_of f.ty.now f.instance f.func.now) → RunsSomeWhole bound l
      → CallsInModule kind bound w cells callers at from f
  calls-in-module Nested f is found k some = calls-module f is found k.height k.top_is k.inside k.same k.calls some
  calls-in-module Tail f is found k some = replaces-module f is found k.height k.top_is k.inside k.same k.calls some

  -- ---- of a host function

  calls-host : (kind : CallKind) (f : HostFunction) → CallsFrom w cells at from kind op address (host_function f.number f.ty.now) → 1 ≤ at.fuel
      → StopsAt bound l (stop.CallsHost kind address (from.top + 1)) l
  calls-host kind f k some = record {
    from = λ u r. stops-unpaid bound (stop.CallsHost kind address (from.top + 1)) refl l l u (reaches-first bound l u r)
        (record {
          op = op;
          function = host_function f.number f.ty.now;
          number = f.number;
          is_host = refl;
          height = k.height;
          lies = omega (arith, k.top_is);
          calls = k.calls u.ghost r.runs;
          paid = some;
        });
    falls = tt;
  }

  at-address : (f : ModuleFunction) → IsCalleeAt w.code address (callee.InModule f) → IsAtAddress w.code address f
  at-address f is =
      let (i, loaded, flat) = is.flat in record {
        found = is.there;
        instance = i;
        loaded = loaded;
        flat = flat-body (signatures_of_instance (slice_get w.code.instances f.instance)) (operations_of i.loaded.value.flat) f flat is.declared.0 is.declared.1;
        types = is.types;
      }

  -- The function that is found there is called.
  calls-found : (kind : CallKind) → RunsSomeWhole bound l → (found : Callee) → IsCalleeAt w.code address found
      → CallsFrom w cells at from kind op address (callee_function found) → Calls bound w cells callers at from kind address found
  calls-found kind some (callee.InModule f) is k =
      calls-in-module kind f is (at-address f is) k some
  calls-found kind some (callee.InHost f) is k = (k.inside, calls-host kind f k)

-- What a call, of either kind, leads to.
by-name-leads : (kind : CallKind) (w : World) (m : Machine) (n : ℕ) → Executes w m (operation_by_name kind n) → (g : Ghost) → RunsAt w m g → CallsByName kind w m g n × CostsOne g m
by-name-leads Nested w m n executes g r = executes g r
by-name-leads Tail w m n executes g r = executes g r

through-leads : (kind : CallKind) (w : World) (m : Machine) (n : ℕ) → Executes w m (op.Transfer (transfer_through kind) n) → (g : Ghost) → RunsAt w m g
    → CallsThrough kind w m g (pair_of w.flat.tables n).first (pair_of w.flat.tables n).second × CostsOne g m
through-leads Nested w m n executes g r = executes g r
through-leads Tail w m n executes g r = executes g r

-- What the call needs.
pub by-name-fits : (kind : CallKind) (w : World) (m : Machine) (n : ℕ) → IsReadyFor w m (operation_by_name kind n) → n < length w.instance.addresses.functions.items
by-name-fits Nested w m n fits = fits
by-name-fits Tail w m n fits = fits

pub through-fits : (kind : CallKind) (w : World) (m : Machine) (n : ℕ) → IsReadyFor w m (op.Transfer (transfer_through kind) n) → IsReadyForCallThrough w m n
through-fits Nested w m n fits = fits
through-fits Tail w m n fits = fits

module _ (bound : ℕ) (w : World) (cells : List ℕ) (callers : List Frame) (at : Position) (kind : CallKind) where
  abbrev its : Machine
  its = machine_at cells at

  abbrev loop : Loop
  loop = loop_at w cells callers at

  -- ---- by an index

  module _ (x : ℕ) (executes : Executes w (machine_at cells at) (operation_by_name kind x)) where
    pub call-lacks : at.fuel ≡ 0 → StopsAt bound loop stop.NoFuel loop
    call-lacks none = stops-empty bound loop (λ g r. (by-name-leads kind w its x executes g r).1) none

    pub call-within : RunsSomeWhole bound loop → (address : ℕ) → address ≡ function_address w x → address < length w.code.functions
    call-within (u, r) address is =
        let (function, named, calls) = (by-name-leads kind w its x executes u.ghost r.runs).0 in
        subst (λ (a : ℕ). a < length w.code.functions) (sym is) (within-code w.code (function_address w x) function named)

    pub call-calls : RunsSomeWhole bound loop → (address : ℕ) → address ≡ function_address w x → (found : Callee) → IsCalleeAt w.code address found
        → Calls bound w cells callers at at kind address found
    call-calls (u, r) address is found there =
        calls-found bound w cells callers at at (by_name kind x) address kind (u, r) found there
        (record {
          height = height_in its;
          top_is = omega (arith, r.runs.low);
          inside = inside w its u.ghost r.runs;
          same = λ g s. refl;
          calls = λ g s.
              let (function, named, calls) = (by-name-leads kind w its x executes g s).0 in
              let one : function ≡ callee_function found = same_Some function (callee_function found) (sym named ∙ ap (slice_get (functions_in w.code)) (sym is) ∙ there.there) in
              subst (λ (a : ℕ). IsCalled kind (by_name kind x) a (callee_function found) g (cells_in g its) its.place (height_in its) (height_in its)) (sym is)
              (subst (λ (i : FunctionInstance). IsCalled kind (by_name kind x) (function_address w x) i g (cells_in g its) its.place (height_in its) (height_in its)) one calls);
        })

    -- A function of the instance's own module is called without its address.
    module _ (some : RunsSomeWhole bound loop) (f : ModuleFunction) (number : f.instance ≡ w.number) (index : ℕ)
        (index_is : x ≡ w.instance.imported + index) (inside : x < length w.instance.addresses.functions.items) where
      its-loaded : IsLoaded w.code f.instance w.instance
      its-loaded = subst (λ (n : ℕ). IsLoaded w.code n w.instance) (sym number) some.1.runs.instance.loaded

      pub own-within : index < length w.instance.loaded.value.source.funcs
      own-within = omega (arith, index_is, inside, its-loaded.own.count)

      abbrev own : (address : ℕ) × IsOwnFunction w.code.functions f.instance w.instance index address
      own = its-loaded.own.own index own-within

      own-address : own.0 ≡ function_address w x
      own-address = sym (ap (λ (n : ℕ). get_or w.instance.addresses.functions.items n 0) index_is ∙ get_or_from_slice_get
          w.instance.addresses.functions.items (w.instance.imported + index) own.0 0 own.1.named)

      pub own-calls : slice_get w.instance.loaded.value.source.funcs index ≡ Some f.func.now
          → slice_get w.instance.loaded.value.source.types f.func.now.ty ≡ Some f.ty.now
          → IsFlat (module_signatures w.instance.loaded.value.source) (operations_of w.instance.loaded.value.flat) f.func.now f.flat.now
          → f.func.now.body ≡ writing (code_of f.func.now).body
          → CallsInModule kind bound w cells callers at at f
      own-calls func ty flat body =
          call-calls some own.0 own-address (callee.InModule f) (own-callee w.code f w.instance index own.0 its-loaded own.1.there func ty flat body)

  -- ---- through a table

  module _ (n : ℕ) (executes : Executes w (machine_at cells at) (op.Transfer (transfer_through kind) n)) where
    pub through-lacks : (why : Stop) → (why ≡ stop.NoFuel) × (at.fuel ≡ 0) → StopsAt bound loop why loop
    through-lacks why (is, none) = subst (λ (s : Stop). StopsAt bound loop s loop) (sym is) (stops-empty bound loop (λ g r. (through-leads kind w its n executes g r).1) none)

  module _ (n : ℕ) (executes : Executes w (machine_at cells at) (op.Transfer (transfer_through kind) n)) (pair : IndexPair) (pair_is : pair ≡ pair_of w.flat.tables n) where
    abbrev type : ℕ
    type = pair.first

    abbrev x : ℕ
    x = pair.second

    abbrev entry : Option Val
    entry = entry_through w.instance w.state x at.operand

    through : (g : Ghost) → RunsAt w its g → CallsThrough kind w its g type x
    through g r = subst (λ (p : IndexPair). CallsThrough kind w its g p.first p.second) (sym pair_is) (through-leads kind w its n executes g r).0

    -- The functions are those of the code.
    found-in : (g : Ghost) → RunsAt w its g → (address : ℕ) → slice_get (functions_in w.code) address ≡ slice_get g.store.functions address
    found-in g r address = ap (λ (s : Store). slice_get s.functions address) (sym r.store)

    abbrev CalledSo : Ghost → (address : ℕ) → FunctionInstance → Type 0
    CalledSo g address function = IsCalled kind (through_table kind type x) address function g (cells_in g its) its.place (height_in its) (height_in its - 1)

    pub through-refers : RunsSomeWhole bound loop → RefersToFunction w.code entry
    through-refers (u, r) =
        refers w.code u.ghost (found-in u.ghost r.runs) (cells_in u.ghost its) its.place (height_in its) (CalledSo u.ghost) (type_of w.instance type) entry (through u.ghost r.runs entry refl)

    pub through-traps : (left : ℕ) → (1 ≤ at.fuel) × (left ≡ at.fuel - 1) → (trap : Trap) → FindsEntry w.code (type_of w.instance type) entry (Err trap)
        → StopsAt bound loop (stop.Traps trap) (loop_at w cells callers (record at { fuel = left }))
    through-traps left (paid, left_is) trap finds = stops-failing bound loop left trap
        (λ g r. entry-traps w.code g (found-in g r) (cells_in g its) its.place (height_in its) (CalledSo g) (type_of w.instance type) entry trap finds
        (through g r entry refl) at.fuel left paid left_is)

    pub through-calls : RunsSomeWhole bound loop → at.base + 1 ≤ at.top → (f : Found) → FindsEntry w.code (type_of w.instance type) entry (Ok f)
        → Calls bound w cells callers at (record at { top = at.top - 1; operand = get_or cells (at.top - 1) 0 }) kind f.address f.callee
    through-calls (u, r) some f finds =
        let in_cells = inside w its u.ghost r.runs in
        calls-found bound w cells callers at (record at { top = at.top - 1; operand = get_or cells (at.top - 1) 0 }) (through_table kind type x)
        f.address kind (u, r) f.callee (entry-found w.code (type_of w.instance type) entry f finds)
        (record {
          height = height_in its - 1;
          top_is = omega (arith, some);
          inside = omega (arith, in_cells);
          same = λ g s. ap (take (height_in its - 1)) (popped-frame g.code.locals at.base cells (at.top - 1)) ∙ sym (lower w its g s 1 (omega arith) (own-fits some f finds g s));
          calls = λ g s. entry-called f finds g s;
        })
      where
        entry-called : (f : Found) → FindsEntry w.code (type_of w.instance type) entry (Ok f) → (g : Ghost) → RunsAt w its g → CalledSo g f.address (callee_function f.callee)
        entry-called f finds g s = entry-calls w.code g (found-in g s) (cells_in g its) its.place (height_in its) (CalledSo g) (type_of w.instance type) entry f finds (through g s entry refl)

        -- The offset of the entry is above the locals.
        own-fits : at.base + 1 ≤ at.top → (f : Found) → FindsEntry w.code (type_of w.instance type) entry (Ok f) → (g : Ghost) → RunsAt w its g → at.base + g.code.locals + 1 ≤ at.top
        own-fits some f finds g s =
            let c : ReachesCall (through_table kind type x) f.address (callee_function f.callee) g (cells_in g its) its.place (height_in its) (height_in its - 1) =
            reached-by kind (through_table kind type x) f.address (callee_function f.callee) g (cells_in g its) its.place (height_in its) (height_in its - 1) (entry-called f finds g s) in
            let locals : c.new.code.locals ≡ g.code.locals = ap (λ (k : FrameCode). k.locals) c.same.code in
            omega (arith, c.holds.top_is, c.holds.count, locals, some)
