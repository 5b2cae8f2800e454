-- The functions that calls find.
use Rattle.std.specs.Prelude.{◌≡◌, ◌≢◌, ℕ, ◌<◌, List, length, Option, Some, None, slice_get, Result, Ok, Err}
use Rattle.core_types.specs.declared.op.ControlOp.TheVariants.{Call, CallIndirect, ReturnCall, ReturnCallIndirect}
use Rattle.core_types.specs.declared.op.PlainOp.{PlainOp}
use Rattle.core_types.specs.declared.op.PlainOp.TheVariants.{Control}
use Rattle.core_types.specs.declared.outcome.Trap.{Trap}
use Rattle.core_types.specs.declared.outcome.Trap.TheVariants.{IndirectType, UndefinedElement, UninitializedElement}
use Rattle.core_types.specs.declared.outcome.Val.{Val}
use Rattle.core_types.specs.declared.outcome.Val.TheVariants.{FuncRef}
use Rattle.core_types.specs.declared.types.FuncType.{FuncType}
use Rattle.meaning.specs.execution.Store.{FunctionInstance}
use Rattle.sidetable.specs.declared.operations.PackedOp.{PackedOp}
use Rattle.sidetable.specs.declared.operations.PackedOp.TheVariants as packed
use Rattle.sidetable.specs.declared.operations.TransferInstruction.{TransferInstruction}
use Rattle.sidetable.specs.declared.operations.TransferInstruction.TheVariants as transfer
use Rattle.simulation.specs.Callees.{IsCalling, IsTailCalling}
use Rattle.simulation.specs.Runs.{Ghost}
use Rattle.store.specs.Contents.{Contents, IsCalleeAt, callee_function, functions_in}
use Rattle.interpreter.specs.declared.callees.Found.{Found}
use Rattle.interpreter.specs.declared.machine.CallKind.{CallKind}
use Rattle.interpreter.specs.declared.machine.CallKind.TheVariants.{Nested, Tail}

-- An entry of a table, if it exists, is null or refers to a function that exists.
abbrev pub RefersToFunction : Contents → Option Val → Type 0
RefersToFunction code None = Unit {0}
RefersToFunction code (Some (FuncRef None)) = Unit {0}
RefersToFunction code (Some (FuncRef (Some address))) = address < length code.functions
RefersToFunction code (Some other) = ⊥

-- A function is found if an entry refers to one of the wanted type.
abbrev pub FindsEntry : Contents → FuncType → Option Val → Result Found Trap → Type 0
FindsEntry code wanted None result = result ≡ Err UndefinedElement
FindsEntry code wanted (Some (FuncRef None)) result = result ≡ Err UninitializedElement
FindsEntry code wanted (Some (FuncRef (Some address))) (Ok f) =
    (f.address ≡ address) × IsCalleeAt code address f.callee
    × ((callee_function f.callee).ty ≡ wanted)
FindsEntry code wanted (Some (FuncRef (Some address))) (Err trap) =
    (trap ≡ IndirectType)
    × (function : FunctionInstance) × (slice_get (functions_in code) address ≡ Some function)
    × (function.ty ≢ wanted)
FindsEntry code wanted (Some other) result = ⊥

-- ---- the two kinds of calls

-- The instructions for this kind of call, by an index and through a table.
abbrev pub by_name : CallKind → (x : ℕ) → PlainOp
by_name Nested x = Control (Call x)
by_name Tail x = Control (ReturnCall x)

abbrev pub through_table : CallKind → (type x : ℕ) → PlainOp
through_table Nested type x = Control (CallIndirect type x)
through_table Tail type x = Control (ReturnCallIndirect type x)

abbrev pub operation_by_name : CallKind → (x : ℕ) → PackedOp
operation_by_name Nested x = packed.Call x
operation_by_name Tail x = packed.Transfer transfer.ReturnCall x

abbrev pub transfer_through : CallKind → TransferInstruction
transfer_through Nested = transfer.CallIndirect
transfer_through Tail = transfer.ReturnCallIndirect

-- The function at an address is called by this kind of call.
abbrev pub IsCalled : CallKind → PlainOp → (address : ℕ) → FunctionInstance → Ghost → List ℕ
    → (at top height : ℕ) → Type 0
IsCalled Nested op address function g cells at top height =
    IsCalling op address function g cells at top height
IsCalled Tail op address function g cells at top height =
    IsTailCalling op address function g cells at top height
