-- What calls find, by an index or through a table, and the steps of calls of host functions.
use Rattle.std.specs.Prelude.{◌≡◌, ℕ, suc, ◌+◌, ◌-◌, ◌≤◌, List, [], ◌∷◌, ◌++◌, length, map, reverse, take, drop, get_or, Option, Some, None, slice_get, true, false}
use Rattle.core_types.specs.declared.op.ControlOp.TheVariants.{Call, CallIndirect, ReturnCall, ReturnCallIndirect}
use Rattle.core_types.specs.declared.op.PlainOp.{PlainOp}
use Rattle.core_types.specs.declared.op.PlainOp.TheVariants.{Control}
use Rattle.core_types.specs.declared.outcome.Trap.TheVariants.{IndirectType, UndefinedElement, UninitializedElement}
use Rattle.core_types.specs.declared.outcome.Val.{Val}
use Rattle.core_types.specs.declared.outcome.Val.TheVariants.{FuncRef}
use Rattle.core_types.specs.declared.types.FuncType.{FuncType}
use Rattle.core_types.specs.declared.types.ValType.{ValType}
use Rattle.core_types.specs.declared.types.ValType.TheVariants.{I32}
use Rattle.meaning.specs.structure.Bodies.{Body, Then}
use Rattle.meaning.specs.execution.Configurations.{Activation, Frame, InFrame, Running, answered}
use Rattle.meaning.specs.execution.Hosts.{with_lent_bytes}
use Rattle.meaning.specs.execution.Instructions.{CallsHost, TailCalls, call_function, lent_memory, next, step_instruction}
use Rattle.meaning.specs.execution.Runs.{price}
use Rattle.meaning.specs.execution.Store.{FunctionInstance, InHost, Store, instance_of}
use Rattle.meaning.specs.execution.Tables.{TableInstance}
use Rattle.meaning.specs.soundness.Values.{ValuesHaveTypes}
use Rattle.meaning.specs.validation.Types.{is_same_function_type}
use Rattle.soundness.specs.Configurations.{ConfigurationHasType}
use Rattle.soundness.specs.Stores.{Follows, ImplementationIsValid, StoreIsValid}
use Rattle.sidetable.specs.Counts.{counts, counts_of}
use Rattle.sidetable.specs.Flat.{Plain}
use Rattle.cells.specs.Cells.{IsCellOf, cell_of, values_of}
use Rattle.simulation.specs.Instructions.{IsTrapped}
use Rattle.simulation.specs.Outcomes.{HasOperands, operand_cells}
use Rattle.simulation.specs.Runs.{Ghost, Holds, IsBefore, IsSameFrame, Runs, StepsIn, config_of, frame_of, place_of}
use Rattle.simulation.specs.Settling.{in_frame}
use Rattle.simulation.specs.Tables.{HasTable}

-- ---- a call

-- The state before a call, after labels were left. The function exists, and its arguments are on top below a height. Other operands are
-- above the height.
pub record ReachesCall (op : PlainOp) (address : ℕ) (function : FunctionInstance) (g : Ghost)
    (cells : List ℕ) (at top height : ℕ) : Type 0 where
  pub new : Ghost
  pub same : IsSameFrame g new
  pub store : new.store ≡ g.store
  pub steps : (fuel : ℕ) → StepsIn g.store (frame_of g) (config_of g) fuel g.store (frame_of new)
      (config_of new) fuel
  pub runs : Runs new cells at top
  pub rest : Body
  pub rest_is : new.rest ≡ Then op rest
  pub there : slice_get new.store.functions address ≡ Some function
  pub valid : ImplementationIsValid new.store function.ty function.implementation
  -- the values up to the height
  pub values : List Val
  pub over : ℕ
  pub top_is : top ≡ height + over
  pub holds : Holds (record new { values = values }) cells height
  pub below : List ValType
  pub typed : ValuesHaveTypes new.store values (reverse function.ty.params ++ below)
  pub enough : length function.ty.params ≤ length values
  pub operands : HasOperands new cells height function.ty.params

-- The call opens a frame above this one, or its results replace its arguments.
pub record IsCalling (op : PlainOp) (address : ℕ) (function : FunctionInstance) (g : Ghost)
    (cells : List ℕ) (at top height : ℕ) : Type 0 where
  pub reached : ReachesCall op address function g cells at top height
  pub counted : counts_of reached.new.code.signatures op ≡
      Some (counts (reached.over + length function.ty.params) (length function.ty.results))
  -- with results of the function's type, the code continues after the instruction
  pub goes_on : (results : List Val)
      → ValuesHaveTypes reached.new.store results function.ty.results
      → ConfigurationHasType reached.new.store (place_of reached.new)
      (in_frame (reverse results ++ drop (length function.ty.params) reached.values)
      reached.new.labels reached.rest) reached.new.results
  -- the step is the call
  pub step : step_instruction reached.new.store (frame_of reached.new) op reached.new.values
      reached.rest
      ≡ call_function 1 reached.new.store (lent_memory reached.new.store (frame_of reached.new))
      (Some function) reached.values reached.rest

-- A tail call: the function gives the results of this frame.
pub record IsTailCalling (op : PlainOp) (address : ℕ) (function : FunctionInstance) (g : Ghost)
    (cells : List ℕ) (at top height : ℕ) : Type 0 where
  pub reached : ReachesCall op address function g cells at top height
  pub results : function.ty.results ≡ reached.new.results
  pub step : step_instruction reached.new.store (frame_of reached.new) op reached.new.values
      reached.rest
      ≡ TailCalls (lent_memory reached.new.store (frame_of reached.new)) function reached.values

-- ---- what is called

-- Whatever waits around the frame, the next step costs one unit of fuel, after labels were left.
pub record CostsAround (g : Ghost) (cells : List ℕ) (at top : ℕ) : Type 0 where
  pub new : Ghost
  pub same : IsSameFrame g new
  pub store : new.store ≡ g.store
  pub steps : (fuel : ℕ) → StepsIn g.store (frame_of g) (config_of g) fuel g.store (frame_of new)
      (config_of new) fuel
  pub runs : Runs new cells at top
  pub price_is : (outer : Frame) (activation : Activation)
      → price (next new.store outer (InFrame activation (frame_of new) (config_of new))) ≡ 1

-- The function under an index exists.
abbrev pub FindsFunction : Ghost → (x : ℕ) → (Called : (address : ℕ) → FunctionInstance → Type 0)
    → Type 0
FindsFunction g x Called =
    (address : ℕ) × (function : FunctionInstance)
    × (slice_get (instance_of g.store (Some g.instance)).functions x ≡ Some address)
    × Called address function

-- call, and return_call.
abbrev pub CallsByName : Type 0
CallsByName =
    (g : Ghost) (cells : List ℕ) (at top x : ℕ)
    → IsBefore (Plain (Control (Call x))) g cells at top
    → FindsFunction g x
    (λ address function. IsCalling (Control (Call x)) address function g cells at top top)
    × CostsAround g cells at top

abbrev pub TailCallsByName : Type 0
TailCallsByName =
    (g : Ghost) (cells : List ℕ) (at top x : ℕ)
    → IsBefore (Plain (Control (ReturnCall x))) g cells at top
    → FindsFunction g x
    (λ address function. IsTailCalling (Control (ReturnCall x)) address function g cells at top top)
    × CostsAround g cells at top

-- By an entry of a table: a trap, or a call of the function that it refers to.
abbrev pub CallsEntry : Ghost → List ℕ → (at top : ℕ)
    → (Called : (address : ℕ) → FunctionInstance → Type 0) → FuncType → Option Val
    → Type 0
CallsEntry g cells at top Called wanted None = IsTrapped g cells at top UndefinedElement
CallsEntry g cells at top Called wanted (Some (FuncRef None)) =
    IsTrapped g cells at top UninitializedElement
CallsEntry g cells at top Called wanted (Some (FuncRef (Some address))) =
    (function : FunctionInstance) × (slice_get g.store.functions address ≡ Some function)
    × (is_same_function_type function.ty wanted ≡ false → IsTrapped g cells at top IndirectType)
    × (is_same_function_type function.ty wanted ≡ true
    → (function.ty ≡ wanted) × Called address function)
CallsEntry g cells at top Called wanted (Some v) = ⊥

-- The table exists, and so does the type that the function must have. The topmost cell is the offset of the entry, above the arguments.
abbrev pub FindsTable : Ghost → List ℕ → (at top type x : ℕ)
    → (Called : (address : ℕ) → FunctionInstance → Type 0)
    → Type 0
FindsTable g cells at top type x Called =
    (address : ℕ) × (t : TableInstance) × HasTable g x address t
    × (wanted : FuncType)
    × (slice_get (instance_of g.store (Some g.instance)).types type ≡ Some wanted)
    × HasOperands g cells top (wanted.params ++ I32 ∷ [])
    × (1 ≤ top) × IsCellOf I32 (get_or cells (top - 1) 0)
    × ((entry : Option Val) → slice_get t.entries (get_or cells (top - 1) 0) ≡ entry
    → CallsEntry g cells at top Called wanted entry)

-- call_indirect, and return_call_indirect.
abbrev pub CallsThroughTables : Type 0
CallsThroughTables =
    (g : Ghost) (cells : List ℕ) (at top type x : ℕ)
    → IsBefore (Plain (Control (CallIndirect type x))) g cells at top
    → FindsTable g cells at top type x
    (λ address function. IsCalling (Control (CallIndirect type x)) address function g cells at top
    (top - 1))
    × CostsAround g cells at top

abbrev pub TailCallsThroughTables : Type 0
TailCallsThroughTables =
    (g : Ghost) (cells : List ℕ) (at top type x : ℕ)
    → IsBefore (Plain (Control (ReturnCallIndirect type x))) g cells at top
    → FindsTable g cells at top type x
    (λ address function. IsTailCalling (Control (ReturnCallIndirect type x)) address function g
    cells at top (top - 1))
    × CostsAround g cells at top

-- ---- host functions

-- What runs after a call that returned results, in a store.
abbrev pub behind_call : {op : PlainOp} → {address : ℕ} → {function : FunctionInstance}
    → {g : Ghost} → {cells : List ℕ} → {at top height : ℕ}
    → IsCalling op address function g cells at top height → Store → (results : List Val) → Ghost
behind_call {function = function} c store results = record c.reached.new {
  store = store;
  values = reverse results ++ drop (length function.ty.params) c.reached.values;
  rest = c.reached.rest;
}

-- The call of a host function. Its arguments are cells, and its results replace them.
pub record IsHostCall (op : PlainOp) (address : ℕ) (function : FunctionInstance) (g : Ghost)
    (cells : List ℕ) (at top height number : ℕ)
    (c : IsCalling op address function g cells at top height) : Type 0 where
  -- the cells are read at its parameters' types
  pub calls : next c.reached.new.store (frame_of c.reached.new) (config_of c.reached.new) ≡
      CallsHost 1 number (lent_memory c.reached.new.store (frame_of c.reached.new))
      (values_of function.ty.params (operand_cells cells height (length function.ty.params)))
      (in_frame (drop (length function.ty.params) c.reached.values) c.reached.new.labels
      c.reached.rest)
  pub answer : (store' : Store) (results : List Val)
      → answered results
      (in_frame (drop (length function.ty.params) c.reached.values) c.reached.new.labels
      c.reached.rest) ≡
      config_of (behind_call c store' results)
  -- the code continues at the next place, in a store that follows
  pub goes_on : (store' : Store) (results : List Val) → StoreIsValid store'
      → Follows c.reached.new.store store' → store'.instances ≡ c.reached.new.store.instances
      → ValuesHaveTypes c.reached.new.store results function.ty.results
      → (cells' : List ℕ) (next_at next_top : ℕ)
      → take next_top cells' ≡
      take (height - length function.ty.params) cells ++ map cell_of results
      → length cells' ≡ length cells → next_at ≡ suc at
      → next_top ≡ height - length function.ty.params + length results
      → Runs (behind_call c store' results) cells' next_at next_top

-- Each call of a host function is one.
abbrev pub CallsReachHosts : Type 0
CallsReachHosts =
    (op : PlainOp) (address : ℕ) (function : FunctionInstance) (g : Ghost) (cells : List ℕ)
    (at top height number : ℕ)
    → (c : IsCalling op address function g cells at top height)
    → function.implementation ≡ InHost number
    → IsHostCall op address function g cells at top height number c

-- A tail call of a host function also takes its arguments from the cells, whatever waits around the frame. Its results replace the frame.
abbrev pub TailCallsReachHosts : Type 0
TailCallsReachHosts =
    (op : PlainOp) (address : ℕ) (function : FunctionInstance) (g : Ghost) (cells : List ℕ)
    (at top height number : ℕ)
    → (c : IsTailCalling op address function g cells at top height)
    → function.implementation ≡ InHost number → (outer : Frame) (activation : Activation)
    → next c.reached.new.store outer
    (InFrame activation (frame_of c.reached.new) (config_of c.reached.new))
    ≡ CallsHost 1 number (lent_memory c.reached.new.store (frame_of c.reached.new))
    (values_of function.ty.params (operand_cells cells height (length function.ty.params)))
    (Running activation.values activation.rest)

-- Other bytes in the memory that a host function borrows leave functions and instances unchanged.
abbrev pub ChangesLentBytes : Type 0
ChangesLentBytes =
    (store : Store) (lent : Option ℕ) (bytes : List ℕ)
    → ((with_lent_bytes store lent bytes).functions ≡ store.functions)
    × ((with_lent_bytes store lent bytes).instances ≡ store.instances)
