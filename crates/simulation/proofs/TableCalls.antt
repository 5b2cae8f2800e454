-- Calls through tables.
use Rattle.std.proofs.Common.{◌≡◌, ℕ, suc, ◌+◌, ◌-◌, ◌≤◌, List, [], ◌∷◌, ◌++◌, true, false, length, map, reverse, get_or, slice_get, refl, ap, sym, subst, ◌∙◌, arith, length-append, inl, inr}
use Rattle.std.proofs.lemmas.List.{length-reverse, reverse-append}
use Rattle.std.proofs.lemmas.Option.{same_Some, slice_get_cases}
use Rattle.std.specs.Prelude.{Bool, Option, Some, None, if◌then◌else◌}
use Rattle.core_types.specs.declared.op.ControlOp.TheVariants.{CallIndirect, ReturnCallIndirect}
use Rattle.core_types.specs.declared.op.PlainOp.{PlainOp}
use Rattle.core_types.specs.declared.op.PlainOp.TheVariants.{Control}
use Rattle.core_types.specs.declared.outcome.Trap.{Trap}
use Rattle.core_types.specs.declared.outcome.Trap.TheVariants.{IndirectType, UndefinedElement, UninitializedElement}
use Rattle.core_types.specs.declared.outcome.Val.{Val}
use Rattle.core_types.specs.declared.outcome.Val.TheVariants.{I32, I64, FuncRef, ExternRef}
use Rattle.core_types.specs.declared.types.FuncType.{FuncType}
use Rattle.core_types.specs.declared.types.RefType.{RefType}
use Rattle.core_types.specs.declared.types.RefType.TheVariants as ref
use Rattle.core_types.specs.declared.types.ValType.{ValType}
use Rattle.core_types.specs.declared.types.ValType.TheVariants as ty
use Rattle.meaning.specs.structure.Bodies.{Body, Then}
use Rattle.meaning.specs.execution.Configurations.{Activation, Frame, InFrame}
use Rattle.meaning.specs.execution.Effects.{table_at}
use Rattle.meaning.specs.execution.Instructions.{Next, TailCalls, Traps, call_entry, call_function, call_of_type, call_through, lent_memory, next, step_instruction}
use Rattle.meaning.specs.execution.Runs.{price}
use Rattle.meaning.specs.execution.Store.{FunctionInstance, Store, instance_of}
use Rattle.meaning.specs.execution.Tables.{TableInstance}
use Rattle.meaning.specs.soundness.Values.{ValueHasType, ValuesHaveTypes}
use Rattle.meaning.specs.validation.Instructions.{IsTable}
use Rattle.meaning.specs.validation.Types.{function_type, is_same_function_type, reference_type}
use Rattle.meaning.proofs.lemmas.SameTypes.{same-function-type}
use Rattle.soundness.specs.Places.{RunsOn, context_at}
use Rattle.soundness.specs.Stores.{TableIsValid}
use Rattle.soundness.proofs.Control.{types-on-top}
use Rattle.soundness.proofs.Operands.{operands-on-top}
use Rattle.soundness.proofs.Values.{All-at}
use Rattle.sidetable.specs.Counts.{counts, counts_of, counts_of_type, with_i32_counts}
use Rattle.cells.specs.Cells.{IsCellOf, cell_of}
use Rattle.simulation.specs.Callees.{CallsEntry, CallsThroughTables, CostsAround, FindsTable, IsCalling, IsTailCalling, TailCallsThroughTables}
use Rattle.simulation.specs.Instructions.{IsTrapped}
use Rattle.simulation.specs.Piles.{cells_of}
use Rattle.simulation.specs.Runs.{Ghost, Holds, frame_of, place_of}
use Rattle.simulation.specs.Settling.{in_frame}
use Rattle.simulation.specs.Standing.{values_under}
use Rattle.simulation.specs.Tables.{HasTable}
use Rattle.simulation.proofs.Callees.{call-costs, calling, costs-around, plain-around, tail-call-around, tail-calling}
use Rattle.simulation.proofs.Cells.{pile-pop}
use Rattle.simulation.proofs.OperandCells.{has-operands}
use Rattle.simulation.proofs.Operands.{Operands, operands-typed, operands_of}
use Rattle.simulation.proofs.Outcomes.{table-there}
use Rattle.simulation.proofs.Plain.{AtPlain, CostsOne, at-plain, fails-here, found, here, pile-high, top-within}
use Rattle.simulation.proofs.Typed.{Inner, with_labels}

-- The call of an instruction through a table, given a function and the values below the offset.
abbrev Calling : Type 0
Calling = Store → Frame → Body → List Val → FunctionInstance → Next

module _ (op : PlainOp) (type x : ℕ) (call : Calling)
    (through : (store : Store) (frame : Frame) (values : List Val) (rest : Body) → step_instruction store frame op values rest
    ≡ call_through store (call store frame rest) (slice_get (instance_of store frame.instance).types type) (table_at store frame x) values)
    (g : Ghost) (cells : List ℕ) (at top : ℕ) (p : AtPlain op g cells at top) where
  abbrev step_here : Next
  step_here = step_instruction g.store (frame_of g) op p.values p.rest

  -- The table, and the arguments of the wanted type below the topmost cell.
  record Through (wanted : FuncType) (below : List ValType) : Type 0 where
    pub address : ℕ
    pub table : TableInstance
    pub located : HasTable g x address table
    pub there : slice_get g.store.tables address ≡ Some table
    pub functions : table.ty.element ≡ ref.FuncRef
    pub named : slice_get (instance_of g.store (Some g.instance)).types type ≡ Some wanted
    pub operands : Operands op g cells at top p (reverse (wanted.params ++ ty.I32 ∷ []))
    pub values : List Val
    pub values_are : p.values ≡ I32 (get_or cells (top - 1) 0) ∷ values
    pub fits : IsCellOf ty.I32 (get_or cells (top - 1) 0)
    pub typed : ValuesHaveTypes g.store values (reverse wanted.params ++ below)

  find-through : (carried : List (List ValType)) (wanted : FuncType) (below : List ValType) → slice_get (instance_of g.store (Some g.instance)).types type ≡ Some wanted
      → IsTable (context_at g.store (with_labels (place_of g) carried)) x ref.FuncRef → ValuesHaveTypes g.store p.values (reverse (wanted.params ++ ty.I32 ∷ []) ++ below) → Through wanted below
  find-through carried wanted below is there typed =
      let (address, held, located, element, kept) = table-there g p.runs.typed.valid carried x ref.FuncRef there in
      let w : Operands op g cells at top p (reverse (wanted.params ++ ty.I32 ∷ [])) = operands-typed op g cells at top p (reverse (wanted.params ++ ty.I32 ∷ [])) below typed in
      let first : reverse (wanted.params ++ ty.I32 ∷ []) ≡ ty.I32 ∷ reverse wanted.params = reverse-append wanted.params (ty.I32 ∷ []) in
      let v : Operands op g cells at top p (ty.I32 ∷ reverse wanted.params) = subst (λ (ts : List ValType). Operands op g cells at top p ts) first w in
      let typed_values : ValuesHaveTypes g.store (I32 (get_or cells (top - 1) 0) ∷ (operands_of cells top 1 (reverse wanted.params) ++ v.popped.others)) (ty.I32 ∷ (reverse wanted.params ++ below)) =
      subst (λ (vs : List Val). ValuesHaveTypes g.store vs (ty.I32 ∷ (reverse wanted.params ++ below))) v.are
      (subst (λ (ts : List ValType). ValuesHaveTypes g.store p.values ts) (ap (λ (ts : List ValType). ts ++ below) first) typed) in record {
        address = address;
        table = held;
        located = located;
        there = kept;
        functions = element;
        named = is;
        operands = w;
        values = operands_of cells top 1 (reverse wanted.params) ++ v.popped.others;
        values_are = v.are;
        fits = v.fits.0;
        typed = typed_values.1;
      }

  module _ (wanted : FuncType) (below : List ValType) (t : Through wanted below) where
    -- The step by the entry.
    entered : step_here ≡ call_entry g.store (call g.store (frame_of g) p.rest t.values) wanted (slice_get t.table.entries (get_or cells (top - 1) 0))
    entered =
        through g.store (frame_of g) p.values p.rest
        ∙ ap (λ (vs : List Val). call_through g.store (call g.store (frame_of g) p.rest)
        (slice_get (instance_of g.store (Some g.instance)).types type) (table_at g.store (frame_of g) x) vs) t.values_are
        ∙ ap (λ (o : Option FuncType). call_through g.store (call g.store (frame_of g) p.rest) o (table_at g.store (frame_of g) x) (I32 (get_or cells (top - 1) 0) ∷ t.values)) t.named
        ∙ ap (λ (o : Option (ℕ × TableInstance)). call_through g.store (call g.store (frame_of g) p.rest) (Some wanted) o (I32 (get_or cells (top - 1) 0) ∷ t.values)) t.located

    one-more : 1 ≤ top
    one-more = let enough = t.operands.enough in let size = length-reverse (wanted.params ++ ty.I32 ∷ []) ∙ length-append wanted.params (ty.I32 ∷ []) in omega (arith, enough, size)

    -- The values below the topmost cell.
    below-top : Holds (record (here op g cells at top p) { values = t.values }) cells (top - 1)
    below-top =
        let size : length p.values ≡ suc (length t.values) = ap (λ (vs : List Val). length vs) t.values_are in
        let top_is = p.runs.holds.top_is in
        let high = pile-high _ cells at top p.runs in
        let count : length (p.values ++ values_under p.labels) ≡ suc (length (t.values ++ values_under p.labels)) = ap (λ (vs : List Val). length (vs ++ values_under p.labels)) t.values_are in
        let within = top-within _ cells at top p.runs in record {
          held = pile-pop cells (map cell_of g.locals) top (I32 (get_or cells (top - 1) 0)) (t.values ++ values_under p.labels)
              (p.runs.holds.held ∙ ap (λ (vs : List Val). map cell_of g.locals ++ cells_of (vs ++ values_under p.labels)) t.values_are) (omega (arith, high, count)) within;
          top_is = omega (arith, size, top_is);
          count = p.runs.holds.count;
          room = p.runs.holds.room;
        }

    abbrev Around : Type 0
    Around = (outer : Frame) (activation : Activation) → price (next g.store outer (InFrame activation (frame_of g) (in_frame p.values p.labels (Then op p.rest)))) ≡ 1

    module _ (Called : (address : ℕ) → FunctionInstance → Type 0)
        (calls : (address : ℕ) (function : FunctionInstance) → slice_get g.store.functions address ≡ Some function → function.ty ≡ wanted → step_here
        ≡ call g.store (frame_of g) p.rest t.values function → Called address function × Around) where
      abbrev Answer : Option Val → Type 0
      Answer entry = CallsEntry g cells at top Called wanted entry × Around

      traps : (trap : Trap) → step_here ≡ Traps 1 trap → IsTrapped g cells at top trap × Around
      traps trap step = (fails-here op g cells at top p trap step, plain-around op g cells at top p (subst CostsOne (sym step) refl))

      module _ (address : ℕ) (function : FunctionInstance) (there : slice_get g.store.functions address ≡ Some function)
          (step : step_here ≡ call_of_type (call g.store (frame_of g) p.rest t.values) wanted (Some function)) where
        -- The step by the type of the function.
        stepped : (b : Bool) → is_same_function_type function.ty wanted ≡ b → step_here ≡ (if b then call g.store (frame_of g) p.rest t.values function else Traps 1 IndirectType)
        stepped b is = step ∙ ap (λ (c : Bool). if c then call g.store (frame_of g) p.rest t.values function else Traps 1 IndirectType) is

        called : is_same_function_type function.ty wanted ≡ true → Called address function × Around
        called same = calls address function there (same-function-type function.ty wanted same) (stepped true same)

        of-type : Answer (Some (FuncRef (Some address)))
        of-type = (
          (
            function,
            there,
            λ other. (traps IndirectType (stepped false other)).0,
            λ same. (same-function-type function.ty wanted same, (called same).0),
          ),
          by (is_same_function_type function.ty wanted) refl,
        )
          where
            by : (b : Bool) → is_same_function_type function.ty wanted ≡ b → Around
            by true is = (called is).1
            by false is = (traps IndirectType (stepped false is)).1

      of-entry : (entry : Option Val) → ((v : Val) → entry ≡ Some v → ValueHasType g.store v ty.FuncRef) → step_here
          ≡ call_entry g.store (call g.store (frame_of g) p.rest t.values) wanted entry → Answer entry
      of-entry None fits step = traps UndefinedElement step
      of-entry (Some (FuncRef None)) fits step = traps UninitializedElement step
      of-entry (Some (FuncRef (Some address))) fits step = by (slice_get g.store.functions address) refl
        where
          by : (o : Option FunctionInstance) → slice_get g.store.functions address ≡ o → Answer (Some (FuncRef (Some address)))
          by None is =
              let inside = (fits (FuncRef (Some address)) refl).1 in
              elim (slice_get_cases g.store.functions address).1 [ inl w ↦ absurd cc | inr w ↦ let wrong : ⊥ = omega (arith, inside, w.0) in absurd wrong ]
          by (Some function) is = of-type address function is (step ∙ ap (λ (o : Option FunctionInstance). call_of_type (call g.store (frame_of g) p.rest t.values) wanted o) is)
      of-entry (Some (I32 n)) fits step = let wrong = fits (I32 n) refl in absurd cc
      of-entry (Some (I64 n)) fits step = let wrong = fits (I64 n) refl in absurd cc
      of-entry (Some (ExternRef n)) fits step = let wrong = fits (ExternRef n) refl in absurd cc

      -- The entries refer to functions.
      answers : (entry : Option Val) → slice_get t.table.entries (get_or cells (top - 1) 0) ≡ entry → Answer entry
      answers entry is =
          of-entry entry
          (λ v same. subst (λ (u : RefType). ValueHasType g.store v (reference_type u)) t.functions
          (All-at (λ (w : Val). ValueHasType g.store w (reference_type t.table.ty.element)) t.table.entries (get_or cells (top - 1) 0) v (is ∙ same) held.entries))
          (entered ∙ ap (λ (o : Option Val). call_entry g.store (call g.store (frame_of g) p.rest t.values) wanted o) is)
        where
          held : TableIsValid g.store t.table
          held = All-at (TableIsValid g.store) g.store.tables t.address t.table t.there p.runs.typed.valid.tables

      finds : FindsTable g cells at top type x Called × CostsAround g cells at top
      finds = (
        (t.address, t.table, t.located, wanted, t.named, has-operands op g cells at top p (wanted.params ++ ty.I32 ∷ []) t.operands, one-more, t.fits, λ entry is. (answers entry is).0),
        costs-around op g cells at top p (answers (slice_get t.table.entries (get_or cells (top - 1) 0)) refl).1,
      )

-- ---- call_indirect

module _ (g : Ghost) (cells : List ℕ) (at top type x : ℕ) (p : AtPlain (Control (CallIndirect type x)) g cells at top) where
  abbrev its : PlainOp
  its = Control (CallIndirect type x)

  abbrev calls_so : Calling
  calls_so store frame rest = λ under f. call_function 1 store (lent_memory store frame) (Some f) under rest

  nested : FindsTable g cells at top type x (λ address function. IsCalling (Control (CallIndirect type x)) address function g cells at top (top - 1)) × CostsAround g cells at top
  nested =
      let f : Inner (here its g cells at top p) = found its g cells at top p in
      let (takes, gives, between, (wanted, is, table, typed), frames, runs) = f.runs in
      let (below, stack_is, between_is) = operands-on-top f.stack (function_type (wanted.params ++ ty.I32 ∷ []) wanted.results) takes gives between typed frames in
      let t : Through its type x calls_so (λ store frame values rest. refl) g cells at top p wanted below =
      find-through its type x calls_so (λ store frame values rest. refl) g cells at top p f.carried wanted below is table
      (subst (λ (ts : List ValType). ValuesHaveTypes g.store p.values ts) stack_is f.values) in
      let less : 1 ≤ top = one-more its type x calls_so (λ store frame values rest. refl) g cells at top p wanted below t in
      let counted : counts_of g.code.signatures its ≡ Some (counts (1 + length wanted.params) (length wanted.results)) =
      ap (λ (ts : List FuncType). Some (with_i32_counts (counts_of_type (slice_get ts type)))) (sym p.runs.typed.types)
      ∙ ap (λ (o : Option FuncType). Some (with_i32_counts (counts_of_type o))) t.named ∙ ap (λ (n : ℕ). Some (counts n (length wanted.results))) (omega arith) in
      finds its type x calls_so (λ store frame values rest. refl) g cells at top p wanted below t
      (λ address function. IsCalling (Control (CallIndirect type x)) address function g cells at top (top - 1))
      (λ address function there same step.
      let typed : ValuesHaveTypes g.store t.values (reverse function.ty.params ++ below) = subst (λ (u : FuncType). ValuesHaveTypes g.store t.values (reverse u.params ++ below)) (sym same) t.typed in
      let counts_are : counts_of g.code.signatures its ≡ Some (counts (1 + length function.ty.params) (length function.ty.results)) =
      counted ∙ ap (λ (u : FuncType). Some (counts (1 + length u.params) (length u.results))) (sym same) in
      let runs : RunsOn g.store (with_labels (place_of g) f.carried) p.rest (reverse function.ty.results ++ below) f.given =
      subst (λ (u : FuncType). RunsOn g.store (with_labels (place_of g) f.carried) p.rest (reverse u.results ++ below) f.given) (sym same) (rw between_is at runs) in
      let holds = below-top its type x calls_so (λ store frame values rest. refl) g cells at top p wanted below t in (
        calling its g cells at top p address function there t.values (top - 1) 1 (omega (arith, less)) holds below typed counts_are f runs step,
        plain-around its g cells at top p (call-costs its g cells at top p address function there t.values (top - 1) 1 (omega (arith, less)) holds below typed counts_are f runs step),
      ))

pub calls-through : CallsThroughTables
calls-through g cells at top type x b = nested g cells at top type x (at-plain (Control (CallIndirect type x)) (tt {0}) g cells at top b)

-- ---- return_call_indirect

module _ (g : Ghost) (cells : List ℕ) (at top type x : ℕ) (p : AtPlain (Control (ReturnCallIndirect type x)) g cells at top) where
  abbrev its_last : PlainOp
  its_last = Control (ReturnCallIndirect type x)

  abbrev calls_last : Calling
  calls_last store frame rest = λ under f. TailCalls (lent_memory store frame) f under

  last : FindsTable g cells at top type x (λ address function. IsTailCalling (Control (ReturnCallIndirect type x)) address function g cells at top (top - 1)) × CostsAround g cells at top
  last =
      let f : Inner (here its_last g cells at top p) = found its_last g cells at top p in
      let (takes, gives, between, (wanted, under, is, table, results_are, taken), frames, runs) = f.runs in
      let (below, stack_is) = types-on-top f.stack takes gives between frames under (wanted.params ++ ty.I32 ∷ []) taken in
      let t : Through its_last type x calls_last (λ store frame values rest. refl) g cells at top p wanted below =
      find-through its_last type x calls_last (λ store frame values rest. refl) g cells at top p f.carried wanted below is table
      (subst (λ (ts : List ValType). ValuesHaveTypes g.store p.values ts) stack_is f.values) in
      let less : 1 ≤ top = one-more its_last type x calls_last (λ store frame values rest. refl) g cells at top p wanted below t in
      let given : g.results ≡ wanted.results = same_Some g.results wanted.results results_are in
      finds its_last type x calls_last (λ store frame values rest. refl) g cells at top p wanted below t
      (λ address function. IsTailCalling (Control (ReturnCallIndirect type x)) address function g cells at top (top - 1))
      (λ address function there same step.
      let typed : ValuesHaveTypes g.store t.values (reverse function.ty.params ++ below) = subst (λ (u : FuncType). ValuesHaveTypes g.store t.values (reverse u.params ++ below)) (sym same) t.typed in
      let results : function.ty.results ≡ g.results = ap (λ (u : FuncType). u.results) same ∙ sym given in
      let holds = below-top its_last type x calls_last (λ store frame values rest. refl) g cells at top p wanted below t in (
        tail-calling its_last g cells at top p address function there t.values (top - 1) 1 (omega (arith, less)) holds below typed results step,
        tail-call-around its_last g cells at top p address function there t.values (top - 1) 1 (omega (arith, less)) holds below typed results step,
      ))

pub tail-calls-through : TailCallsThroughTables
tail-calls-through g cells at top type x b = last g cells at top type x (at-plain (Control (ReturnCallIndirect type x)) (tt {0}) g cells at top b)
