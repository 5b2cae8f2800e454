-- The reduction (Execution, Instructions), by cases on the leftmost redex, with the cost of each step, which is this
-- project's own.
use Rattle.std.specs.Prelude.{ℕ, zero, suc, List, [], ◌∷◌, ◌++◌, length, take, drop, reverse, map, get_or, Option, Some, None, slice_get, nat_le, if◌then◌else◌}
use Rattle.core_types.specs.declared.types.FuncType.{FuncType}
use Rattle.core_types.specs.declared.op.BlockType.{BlockType}
use Rattle.core_types.specs.declared.op.BranchTable.{BranchTable}
use Rattle.core_types.specs.declared.op.ControlOp.TheVariants.{Br, BrIf, Return, Call, CallIndirect, ReturnCall, ReturnCallIndirect}
use Rattle.core_types.specs.declared.op.PlainOp.{PlainOp}
use Rattle.core_types.specs.declared.op.PlainOp.TheVariants.{BrTable, Control}
use Rattle.core_types.specs.declared.outcome.Val.{Val}
use Rattle.core_types.specs.declared.outcome.Val.TheVariants.{I32, FuncRef}
use Rattle.core_types.specs.declared.outcome.Trap.{Trap}
use Rattle.core_types.specs.declared.outcome.Trap.TheVariants.{IndirectType, UndefinedElement, UninitializedElement}
use Rattle.meaning.specs.structure.Bodies.{Kind, BlockKind, LoopKind, IfKind, Body, Empty, Then, Nested, IfElse}
use Rattle.meaning.specs.execution.Configurations.{Frame, Continuation, Onward, Again, continue_with, Label, Activation, Configuration, Running, InLabel, InFrame, Invoking}
use Rattle.meaning.specs.execution.Costs.{instruction_cost}
use Rattle.meaning.specs.execution.Effects.{Effect, Done, Grown, Fails, Lacks, effect, table_at}
use Rattle.meaning.specs.execution.Store.{Code, FunctionInstance, Implementation, InCode, InHost, Store, instance_of, item_at}
use Rattle.meaning.specs.execution.Tables.{TableInstance}
use Rattle.meaning.specs.execution.Values.{default_of, type_of}
use Rattle.meaning.specs.validation.Types.{are_same_types, block_type, is_same_function_type, label_types}

-- The next step of a configuration.
pub data Next : Type 0 where
  -- a step that asks for no memory
  Goes : (cost : ℕ) (store : Store) (frame : Frame) (configuration : Configuration) → Next
  -- a step for which a table or a memory grows, or a frame replaces another
  Grows : (cost : ℕ) (store : Store) (frame : Frame) (configuration : Configuration) → Next
  -- a step that opens a frame
  Opens : (cost : ℕ) (store : Store) (configuration : Configuration) → Next
  -- a call of the host function of a number, which borrows the memory at an address, if there is one; the configuration takes its results
  CallsHost : (cost number : ℕ) (lent : Option ℕ) (arguments : List Val)
      (configuration : Configuration) → Next
  -- a step to a trap
  Traps : (cost : ℕ) (trap : Trap) → Next
  -- a branch to the label of this number, counted from here outward, with the values before it
  Branches : (label : ℕ) (values : List Val) → Next
  -- a return with the values before it
  Returns : (values : List Val) → Next
  -- a tail call of this function, which would borrow the memory at an address, if there is one, with the values before it
  TailCalls : (lent : Option ℕ) (function : FunctionInstance) (values : List Val) → Next
  -- only values are left
  Over : (values : List Val) → Next
  -- no case applies
  NotReady : Next

-- The frame with other locals.
abbrev pub with_locals : Frame → List Val → Frame
with_locals frame locals = record { instance = frame.instance; locals = locals }

abbrev pub continue_after : Frame → Effect → Body → Next
continue_after frame (Done cost store locals values) rest =
    Goes cost store (with_locals frame locals) (Running values rest)
continue_after frame (Grown cost store locals values) rest =
    Grows cost store (with_locals frame locals) (Running values rest)
continue_after frame (Fails trap) rest = Traps instruction_cost trap
continue_after frame Lacks rest = NotReady

-- ---- calls

-- The topmost values, in the order of the types that they are for: the last one was on top.
abbrev pub topmost : {T : Type 0} → List T → List Val → List Val
topmost types values = reverse (take (length types) values)

-- The frame of a call, whose arguments are the topmost values (Invocation of Function Instances).
abbrev pub frame_of : FuncType → (instance : ℕ) → Code → List Val → Frame
frame_of t instance code values =
    record {
      instance = Some instance;
      locals = topmost t.params values ++ map default_of code.locals;
    }

-- The inside of a fresh frame: a label around the body.
abbrev pub function_body : FuncType → Code → Configuration
function_body t code =
    InLabel (record { arity = length t.results; continuation = Onward; values = []; rest = Empty })
    (Running [] code.body)

-- A frame around a body, above the values that are not arguments.
abbrev pub enter_function : ℕ → Store → FuncType → (instance : ℕ) → Code → List Val → Body → Next
enter_function cost store t instance code values rest =
    Opens cost store
    (InFrame (record {
      arity = length t.results;
      values = drop (length t.params) values;
      rest = rest;
    }) (frame_of t instance code values) (function_body t code))

-- A call of a host function. Its arguments must have the types of its parameters, and its results replace them (Host Functions).
abbrev pub call_host : ℕ → (number : ℕ) → (lent : Option ℕ) → FuncType → List Val → Body → Next
call_host cost number lent t values rest =
    if are_same_types (map type_of (topmost t.params values)) t.params
    then CallsHost cost number lent (topmost t.params values)
    (Running (drop (length t.params) values) rest)
    else NotReady

abbrev pub call_implementation : ℕ → Store → (lent : Option ℕ) → FuncType → Implementation
    → List Val → Body
    → Next
call_implementation cost store lent t (InCode instance code) values rest =
    enter_function cost store t instance code values rest
call_implementation cost store lent t (InHost number) values rest =
    call_host cost number lent t values rest

-- A call of a function, which takes its arguments from the values (Calls).
abbrev pub call_function : ℕ → Store → (lent : Option ℕ) → Option FunctionInstance → List Val
    → Body → Next
call_function cost store lent None values rest = NotReady
call_function cost store lent (Some f) values rest =
    if nat_le (length f.ty.params) (length values)
    then call_implementation cost store lent f.ty f.implementation values rest
    else NotReady

-- The address of the memory that the frame's instance has, if it has one.
abbrev pub lent_memory : Store → Frame → Option ℕ
lent_memory store frame = slice_get (instance_of store frame.instance).memories 0

-- The function that the frame's instance has under an index.
abbrev pub function_at : Store → Frame → ℕ → Option FunctionInstance
function_at store frame x = item_at store.functions (instance_of store frame.instance).functions x

-- The effect of a call of a function that must have this type (call_indirect).
abbrev pub call_of_type : (call : FunctionInstance → Next) → FuncType → Option FunctionInstance
    → Next
call_of_type call t None = NotReady
call_of_type call t (Some f) =
    if is_same_function_type f.ty t then call f else Traps instruction_cost IndirectType

-- The effect of a call of the function that an entry of a table refers to. There must be an entry, it must not be null, and the function
-- must have this type, checked in this order (call_indirect).
abbrev pub call_entry : Store → (call : FunctionInstance → Next) → FuncType → (entry : Option Val)
    → Next
call_entry store call t None = Traps instruction_cost UndefinedElement
call_entry store call t (Some (FuncRef None)) = Traps instruction_cost UninitializedElement
call_entry store call t (Some (FuncRef (Some address))) =
    call_of_type call t (slice_get store.functions address)
call_entry store call t (Some v) = NotReady

-- The effect of a call of a function with the values under the topmost i32, which is the offset of the entry (call_indirect).
abbrev pub call_through : Store → (call : List Val → FunctionInstance → Next) → Option FuncType
    → Option (ℕ × TableInstance) → List Val
    → Next
call_through store call (Some t) (Some (address, table)) (I32 i ∷ values) =
    call_entry store (call values) t (slice_get table.entries i)
call_through store call t found values = NotReady

-- A tail call of a function, if there is one (the extension for tail calls, return_call).
abbrev pub tail_call : (lent : Option ℕ) → Option FunctionInstance → List Val → Next
tail_call lent None values = NotReady
tail_call lent (Some f) values = TailCalls lent f values

-- ---- control

-- br_if: a branch if the i32 is not zero.
abbrev pub branch_if : Store → Frame → ℕ → List Val → Body → Next
branch_if store frame label (I32 zero ∷ values) rest =
    Goes instruction_cost store frame (Running values rest)
branch_if store frame label (I32 (suc n) ∷ values) rest = Branches label values
branch_if store frame label values rest = NotReady

-- br_table: a branch to the label that the i32 counts, or to the default one.
abbrev pub branch_by_table : BranchTable → List Val → Next
branch_by_table table (I32 n ∷ values) = Branches (get_or table.labels n table.default) values
branch_by_table table values = NotReady

-- An instruction without a body.
abbrev pub step_instruction : Store → Frame → PlainOp → List Val → Body → Next
step_instruction store frame (Control (Br label)) values rest = Branches label values
step_instruction store frame (Control (BrIf label)) values rest =
    branch_if store frame label values rest
step_instruction store frame (BrTable table) values rest = branch_by_table table values
step_instruction store frame (Control Return) values rest = Returns values
step_instruction store frame (Control (Call x)) values rest =
    call_function instruction_cost store (lent_memory store frame) (function_at store frame x)
    values rest
step_instruction store frame (Control (CallIndirect type x)) values rest =
    call_through store
    (λ under f. call_function instruction_cost store (lent_memory store frame) (Some f) under rest)
    (slice_get (instance_of store frame.instance).types type) (table_at store frame x) values
step_instruction store frame (Control (ReturnCall x)) values rest =
    tail_call (lent_memory store frame) (function_at store frame x) values
step_instruction store frame (Control (ReturnCallIndirect type x)) values rest =
    call_through store (λ under f. TailCalls (lent_memory store frame) f under)
    (slice_get (instance_of store frame.instance).types type) (table_at store frame x) values
step_instruction store frame op values rest =
    continue_after frame (effect store frame op values) rest

-- The type of a block, by the types of the frame's instance.
abbrev pub type_of_block : Store → Frame → BlockType → Option FuncType
type_of_block store frame type = block_type (instance_of store frame.instance).types type

abbrev pub continuation_of : Kind → BlockType → Body → Continuation
continuation_of BlockKind type inside = Onward
continuation_of LoopKind type inside = Again type inside
continuation_of IfKind type inside = Onward

-- The label of a block. The topmost values are inside, and the others are under it.
abbrev pub label_of : Kind → BlockType → FuncType → Body → List Val → Body → Label
label_of kind type t inside values rest = record {
  arity = length (label_types kind t);
  continuation = continuation_of kind type inside;
  values = drop (length t.params) values;
  rest = rest;
}

-- A label with the topmost values and a body inside.
abbrev pub enter_label : Store → Frame → Kind → BlockType → Option FuncType → Body → List Val
    → Body → Next
enter_label store frame kind type None inside values rest = NotReady
enter_label store frame kind type (Some t) inside values rest =
    if nat_le (length t.params) (length values)
    then Goes instruction_cost store frame
    (InLabel (label_of kind type t inside values rest)
    (Running (take (length t.params) values) inside))
    else NotReady

-- if: the first body if the i32 is not zero, and otherwise the second.
abbrev pub choose_body : Store → Frame → BlockType → Body → Body → List Val → Body → Next
choose_body store frame type inside other (I32 zero ∷ values) rest =
    enter_label store frame IfKind type (type_of_block store frame type) other values rest
choose_body store frame type inside other (I32 (suc n) ∷ values) rest =
    enter_label store frame IfKind type (type_of_block store frame type) inside values rest
choose_body store frame type inside other values rest = NotReady

-- Instructions after their values.
abbrev pub step_sequence : Store → Frame → List Val → Body → Next
step_sequence store frame values Empty = Over values
step_sequence store frame values (Then op rest) = step_instruction store frame op values rest
step_sequence store frame values (Nested BlockKind type inside rest) =
    enter_label store frame BlockKind type (type_of_block store frame type) inside values rest
step_sequence store frame values (Nested LoopKind type inside rest) =
    enter_label store frame LoopKind type (type_of_block store frame type) inside values rest
step_sequence store frame values (Nested IfKind type inside rest) =
    choose_body store frame type inside Empty values rest
step_sequence store frame values (IfElse type inside other rest) =
    choose_body store frame type inside other values rest

-- A branch keeps the topmost of its values. They and the continuation replace the label.
abbrev pub branch_to_label : Store → Frame → Label → List Val → Next
branch_to_label store frame label kept =
    if nat_le label.arity (length kept)
    then Goes instruction_cost store frame
    (Running (take label.arity kept ++ label.values) (continue_with label.continuation label.rest))
    else NotReady

-- A label around the next step of its inside. Around values only, it becomes the values (Exiting).
abbrev pub step_in_label : Store → Frame → Label → Next → Next
step_in_label store frame label (Goes cost store' frame' inside) =
    Goes cost store' frame' (InLabel label inside)
step_in_label store frame label (Grows cost store' frame' inside) =
    Grows cost store' frame' (InLabel label inside)
step_in_label store frame label (Opens cost store' inside) =
    Opens cost store' (InLabel label inside)
step_in_label store frame label (CallsHost cost number lent arguments inside) =
    CallsHost cost number lent arguments (InLabel label inside)
step_in_label store frame label (Traps cost trap) = Traps cost trap
step_in_label store frame label (Branches zero kept) = branch_to_label store frame label kept
step_in_label store frame label (Branches (suc further) kept) = Branches further kept
step_in_label store frame label (Returns kept) = Returns kept
step_in_label store frame label (TailCalls lent f kept) = TailCalls lent f kept
step_in_label store frame label (Over results) =
    Goes 0 store frame (Running (results ++ label.values) label.rest)
step_in_label store frame label NotReady = NotReady

-- A return keeps the topmost of its values, which replace the frame.
abbrev pub return_from_frame : Store → Frame → Activation → List Val → Next
return_from_frame store outer activation kept =
    if nat_le activation.arity (length kept)
    then Goes instruction_cost store outer
    (Running (take activation.arity kept ++ activation.values) activation.rest)
    else NotReady

-- A step that opens a frame where one was left. It asks for memory, and the number of open frames stays.
abbrev pub in_place : Frame → Next → Next
in_place outer (Opens cost store configuration) = Grows cost store outer configuration
in_place outer other = other

-- A tail call keeps the topmost of its values, which are the arguments. They replace the frame, and the function is called with them
-- there, in one step (the extension for tail calls, return_call).
abbrev pub call_in_place : Store → Frame → Activation → (lent : Option ℕ) → FunctionInstance
    → List Val
    → Next
call_in_place store outer activation lent f kept =
    if nat_le (length f.ty.params) (length kept)
    then in_place outer (call_function instruction_cost store lent (Some f)
    (take (length f.ty.params) kept ++ activation.values) activation.rest)
    else NotReady

-- A frame around the next step of its inside. Around values only, it becomes the values (Returning from a function).
abbrev pub step_in_frame : Store → Frame → Activation → Frame → Next → Next
step_in_frame store outer activation own (Goes cost store' own' inside) =
    Goes cost store' outer (InFrame activation own' inside)
step_in_frame store outer activation own (Grows cost store' own' inside) =
    Grows cost store' outer (InFrame activation own' inside)
step_in_frame store outer activation own (Opens cost store' inside) =
    Opens cost store' (InFrame activation own inside)
step_in_frame store outer activation own (CallsHost cost number lent arguments inside) =
    CallsHost cost number lent arguments (InFrame activation own inside)
step_in_frame store outer activation own (Traps cost trap) = Traps cost trap
step_in_frame store outer activation own (Branches label kept) = NotReady
step_in_frame store outer activation own (Returns kept) =
    return_from_frame store outer activation kept
step_in_frame store outer activation own (TailCalls lent f kept) =
    call_in_place store outer activation lent f kept
step_in_frame store outer activation own (Over results) =
    Goes 0 store outer (Running (results ++ activation.values) activation.rest)
step_in_frame store outer activation own NotReady = NotReady

-- The next step of a configuration, within this frame. An entry from outside costs nothing, and passes no memory.
abbrev pub next : Store → Frame → Configuration → Next
next store frame (Running values rest) = step_sequence store frame values rest
next store frame (InLabel label inside) = step_in_label store frame label (next store frame inside)
next store frame (InFrame activation own inside) =
    step_in_frame store frame activation own (next store own inside)
next store frame (Invoking arguments address) =
    call_function 0 store None (slice_get store.functions address) arguments Empty
