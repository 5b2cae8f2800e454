-- Worked rows of runs: calls of small functions, with the fuel before and after.
use Rattle.std.specs.Prelude.{◌≡◌, ℕ, suc, List, [], ◌∷◌, length, Option, Some, None}
use Rattle.core_types.specs.declared.types.ValType.{ValType}
use Rattle.core_types.specs.declared.types.ValType.TheVariants as ty
use Rattle.core_types.specs.declared.op.BlockType.TheVariants as block
use Rattle.core_types.specs.declared.op.ControlOp.TheVariants.{Br, Call, CallIndirect, ReturnCall, ReturnCallIndirect}
use Rattle.core_types.specs.declared.op.PlainOp.{PlainOp}
use Rattle.core_types.specs.declared.op.PlainOp.TheVariants.{Control, I32Const, Memory, Numeric, Reference, Table, Variable}
use Rattle.core_types.specs.declared.op.VariableOp.TheVariants.{GlobalGet, GlobalSet, LocalGet}
use Rattle.core_types.specs.declared.op.LoadOp.TheVariants.{Bits8, Bits16}
use Rattle.core_types.specs.declared.op.MemoryOp.TheVariants.{Fill, Grow, Init, Load}
use Rattle.core_types.specs.declared.op.ReferenceOp.TheVariants.{Func, Null}
use Rattle.core_types.specs.declared.op.TableOp.TheVariants as table
use Rattle.core_types.specs.declared.types.RefType.TheVariants as ref
use Rattle.core_types.specs.declared.op.Sign.TheVariants.{Unsigned}
use Rattle.core_types.specs.declared.types.Mutability.TheVariants.{Var}
use Rattle.core_types.specs.declared.op.NumericOp.TheVariants.{Binary}
use Rattle.core_types.specs.declared.op.Width.TheVariants.{W32}
use Rattle.core_types.specs.declared.op.BinaryOp.TheVariants.{Add, Sub}
use Rattle.core_types.specs.declared.outcome.Val.{Val}
use Rattle.core_types.specs.declared.outcome.Val.TheVariants.{I32, FuncRef}
use Rattle.meaning.specs.structure.Bodies.{Body, Empty, Then, Nested, IfElse, BlockKind, IfKind, LoopKind}
use Rattle.meaning.specs.validation.Types.{function_type}
use Rattle.meaning.specs.execution.Configurations.{InFrame, Invoking, Running, no_frame}
use Rattle.meaning.specs.execution.Instructions.{next}
use Rattle.meaning.specs.execution.Runs.{Answer, AsksForMemory, Results, HostTrap, Ending, NoHosts, Run, State}
use Rattle.meaning.specs.execution.Store.{FunctionInstance, InCode, InHost, Store}

-- A function of the first instance, without locals except its parameters.
abbrev pub function : List ValType → List ValType → Body → FunctionInstance
function params results body =
    record {
      ty = function_type params results;
      implementation = InCode 0 (record { locals = []; body = body });
    }

-- The functions of one instance.
abbrev pub instance_of_two : FunctionInstance → FunctionInstance → Store
instance_of_two f g = record {
  functions = f ∷ g ∷ [];
  instances = record {
    types = [];
    functions = 0 ∷ 1 ∷ [];
    tables = [];
    memories = [];
    globals = [];
    elements = [];
    datas = [];
    exports = [];
  } ∷ [];
  tables = [];
  memories = [];
  globals = [];
  elements = [];
  datas = [];
  pages = 0;
  entries = 0;
}

-- The instruction that gets a local.
abbrev pub local : ℕ → PlainOp
local x = Variable (LocalGet x)

-- The function that does nothing.
abbrev pub nothing : FunctionInstance
nothing = function [] [] Empty

-- The state with this function in the first place, and this fuel.
abbrev pub state_of : FunctionInstance → (fuel : ℕ) → State ⊥
state_of f fuel = record { store = instance_of_two f nothing; hosts = []; fuel = fuel }

-- A call of the first function, with the arguments from the top, from this fuel to this ending with that fuel left.
abbrev pub Calls : (bound : ℕ) → FunctionInstance → List Val → (fuel : ℕ) → Ending → (left : ℕ)
    → Type 0
Calls bound f arguments fuel ending left =
    Run NoHosts bound no_frame (state_of f fuel) (Invoking arguments 0) ending (state_of f left)

-- It adds its two arguments.
abbrev pub adder : FunctionInstance
adder =
    function (ty.I32 ∷ ty.I32 ∷ []) (ty.I32 ∷ [])
    (Then (local 0) (Then (local 1) (Then (Numeric (Binary W32 Add)) Empty)))

-- A loop that branches to itself.
abbrev pub endless : FunctionInstance
endless = function [] [] (Nested LoopKind block.Empty (Then (Control (Br 0)) Empty) Empty)

-- A block of one result, with a branch out of it after three values are pushed.
abbrev pub last_of_three : FunctionInstance
last_of_three =
    function [] (ty.I32 ∷ [])
    (Nested BlockKind (block.Value ty.I32)
    (Then (I32Const 7) (Then (I32Const 8) (Then (I32Const 9) (Then (Control (Br 0)) Empty))))
    Empty)

-- Two results.
abbrev pub one_and_two : FunctionInstance
one_and_two = function [] (ty.I32 ∷ ty.I32 ∷ []) (Then (I32Const 1) (Then (I32Const 2) Empty))

-- 7 if the argument is not zero, and otherwise 8.
abbrev pub seven_or_eight : FunctionInstance
seven_or_eight =
    function (ty.I32 ∷ []) (ty.I32 ∷ [])
    (Then (local 0) (IfElse (block.Value ty.I32) (Then (I32Const 7) Empty)
    (Then (I32Const 8) Empty) Empty))

-- A call of the function that does nothing.
abbrev pub caller : FunctionInstance
caller = function [] [] (Then (Control (Call 1)) Empty)

-- ---- host functions

-- The store of this function and a host function, in an instance that has the memory at address 6.
abbrev pub store_with_host : FunctionInstance → (host_params host_results : List ValType) → Store
store_with_host f host_params host_results = record {
  functions =
      f ∷ record { ty = function_type host_params host_results; implementation = InHost 0 } ∷ [];
  instances = record {
    types = [];
    functions = 0 ∷ 1 ∷ [];
    tables = [];
    memories = 6 ∷ [];
    globals = [];
    elements = [];
    datas = [];
    exports = [];
  } ∷ [];
  tables = [];
  memories = [];
  globals = [];
  elements = [];
  datas = [];
  pages = 0;
  entries = 0;
}

-- The host function that counts its calls and returns the count, if it borrows this memory.
abbrev pub CountsCalls : Option ℕ → List ℕ → ℕ → Option ℕ → List Val → Store → Answer → Store
    → List ℕ → Type 0
CountsCalls memory hosts number lent arguments store answer store' hosts' =
    (lent ≡ memory) × (store' ≡ store) × (n : ℕ) × (hosts ≡ n ∷ []) ×
    (answer ≡ Results (I32 (suc n) ∷ [])) ×
    (hosts' ≡ suc n ∷ [])

-- It calls the host function twice.
abbrev pub calls_twice : FunctionInstance
calls_twice =
    function [] (ty.I32 ∷ ty.I32 ∷ []) (Then (Control (Call 1)) (Then (Control (Call 1)) Empty))

-- The state with this function, the host function that counts, and its count.
abbrev pub counting : (count fuel : ℕ) → State ℕ
counting count fuel =
    record { store = store_with_host calls_twice [] (ty.I32 ∷ []); hosts = count ∷ []; fuel = fuel }

-- The host function that traps if it is called with 1 and 2, in this order.
abbrev pub TrapsAtOneAndTwo : List ℕ → ℕ → Option ℕ → List Val → Store → Answer → Store → List ℕ
    → Type 0
TrapsAtOneAndTwo hosts number lent arguments store answer store' hosts' =
    (arguments ≡ I32 1 ∷ I32 2 ∷ []) × (answer ≡ HostTrap 4) × (store' ≡ store) × (hosts' ≡ hosts)

-- It calls the host function with 1 and 2.
abbrev pub calls_with_one_and_two : FunctionInstance
calls_with_one_and_two =
    function [] [] (Then (I32Const 1) (Then (I32Const 2) (Then (Control (Call 1)) Empty)))

abbrev pub trapping : (fuel : ℕ) → State ℕ
trapping fuel =
    record {
      store = store_with_host calls_with_one_and_two (ty.I32 ∷ ty.I32 ∷ []) [];
      hosts = [];
      fuel = fuel;
    }

-- ---- memories and globals

-- The store of this function, with a memory of 128 bytes and a global that is 5, in one instance.
abbrev pub store_with_memory : FunctionInstance → (bytes : List ℕ) → (value : ℕ) → Store
store_with_memory f bytes value = record {
  functions = f ∷ [];
  instances = record {
    types = [];
    functions = 0 ∷ [];
    tables = [];
    memories = 0 ∷ [];
    globals = 0 ∷ [];
    elements = [];
    datas = 0 ∷ [];
    exports = [];
  } ∷ [];
  tables = [];
  memories = record { limits = record { min = 0; max = None }; bytes = bytes } ∷ [];
  globals = record { ty = record { value = ty.I32; mutability = Var }; value = I32 value } ∷ [];
  elements = [];
  datas = record { bytes = 9 ∷ 8 ∷ [] } ∷ [];
  pages = 0;
  entries = 0;
}

abbrev pub with_bytes_and_global : FunctionInstance → List ℕ → (value fuel : ℕ) → State ⊥
with_bytes_and_global f bytes value fuel =
    record { store = store_with_memory f bytes value; hosts = []; fuel = fuel }

-- It fills the 128 bytes with 7.
abbrev pub fills : FunctionInstance
fills = function [] [] (Then (I32Const 0)
    (Then (I32Const 7) (Then (I32Const 128) (Then (Memory Fill) Empty))))

-- It copies the second byte of the data segment to the address 1, reads both bytes, and sets the global to what it read.
abbrev pub copies_and_sets : FunctionInstance
copies_and_sets = function [] (ty.I32 ∷ [])
    (Then (I32Const 1)
    (Then (I32Const 1)
    (Then (I32Const 1) (Then (Memory (Init 0))
    (Then (I32Const 0)
    (Then (Memory (Load (Bits16 W32 Unsigned) (record { align = 1; offset = 0 })))
    (Then (Variable (GlobalSet 0)) (Then (Variable (GlobalGet 0)) Empty))))))))

-- It grows its memory by a page, which the bound does not allow, and then reads past the end.
abbrev pub grows_and_reads : FunctionInstance
grows_and_reads = function [] (ty.I32 ∷ [])
    (Then (I32Const 1)
    (Then (Memory Grow)
    (Then (Memory (Load (Bits8 W32 Unsigned) (record { align = 0; offset = 0 }))) Empty)))

-- ---- tables and calls through them

-- A function that returns 10.
abbrev pub ten : FunctionInstance
ten = function [] (ty.I32 ∷ []) (Then (I32Const 10) Empty)

-- The store of this function, the one that returns 10 and the one that does nothing, in one instance. It has a table of these entries,
-- which may have four, and an element segment of these references. Type 0 is that of a function that returns an i32.
abbrev pub store_with_table : FunctionInstance → (entries references : List Val) → Store
store_with_table f entries references = record {
  functions = f ∷ ten ∷ nothing ∷ [];
  instances = record {
    types = function_type [] (ty.I32 ∷ []) ∷ [];
    functions = 0 ∷ 1 ∷ 2 ∷ [];
    tables = 0 ∷ [];
    memories = [];
    globals = [];
    elements = 0 ∷ [];
    datas = [];
    exports = [];
  } ∷
      [];
  tables = record {
    ty = record {
      element = ref.FuncRef;
      limits = record { min = length entries; max = None };
    };
    entries = entries;
  } ∷ [];
  memories = [];
  globals = [];
  elements = record { ty = ref.FuncRef; references = references } ∷ [];
  datas = [];
  pages = 0;
  entries = 4;
}

abbrev pub with_entries : FunctionInstance → (entries references : List Val) → (fuel : ℕ) → State ⊥
with_entries f entries references fuel =
    record { store = store_with_table f entries references; hosts = []; fuel = fuel }

-- The function at an address, and null.
abbrev pub at : ℕ → Val
at address = FuncRef (Some address)

abbrev pub null : Val
null = FuncRef None

-- It calls the function of an entry, which must return an i32.
abbrev pub calls_entry : FunctionInstance
calls_entry =
    function (ty.I32 ∷ []) (ty.I32 ∷ []) (Then (local 0) (Then (Control (CallIndirect 0 0)) Empty))

-- A call of it for an entry of a table of the function that returns 10, the one that does nothing, and null.
abbrev pub CallsEntry : (offset fuel : ℕ) → Ending → (left : ℕ) → Type 0
CallsEntry offset fuel ending left =
    Run NoHosts 2 no_frame (with_entries calls_entry (at 1 ∷ at 2 ∷ null ∷ []) [] fuel)
    (Invoking (I32 offset ∷ []) 0) ending
    (with_entries calls_entry (at 1 ∷ at 2 ∷ null ∷ []) [] left)

-- It fills that many entries with null.
abbrev pub fills_entries : (count : ℕ) → FunctionInstance
fills_entries count = function [] []
    (Then (I32Const 0) (Then (Reference (Null ref.FuncRef))
    (Then (I32Const count) (Then (Table (table.Fill 0)) Empty))))

-- It copies the reference of the segment to the entry at 1, drops the segment, and reads the entry.
abbrev pub inits_entry : FunctionInstance
inits_entry = function [] (ty.FuncRef ∷ [])
    (Then (I32Const 1)
    (Then (I32Const 0)
    (Then (I32Const 1) (Then (Table (table.Init 0 0))
    (Then (Table (table.ElemDrop 0)) (Then (I32Const 1) (Then (Table (table.Get 0)) Empty)))))))

-- It grows the table by that many entries of the function at 1.
abbrev pub grows_table : (count : ℕ) → FunctionInstance
grows_table count = function [] (ty.I32 ∷ [])
    (Then (Reference (Func 1)) (Then (I32Const count) (Then (Table (table.Grow 0)) Empty)))

-- ---- steps that ask for memory

-- In the first instance the next step of these values and this body asks for memory.
abbrev pub Asks : Store → List Val → Body → Type 0
Asks store values rest =
    AsksForMemory (next store (record { instance = Some 0; locals = [] }) (Running values rest))

-- The store of a memory without a page, which may have this many pages.
abbrev pub store_with_pages : (pages : ℕ) → Store
store_with_pages pages = record (store_with_memory nothing [] 5) { pages = pages }

-- The store of a table of two entries, which may have four.
abbrev pub store_with_entries : Store
store_with_entries = store_with_table nothing (null ∷ null ∷ []) []

-- One instruction only.
abbrev pub alone : PlainOp → Body
alone op = Then op Empty

-- ---- tail calls

-- It calls itself with one less until it is called with 0, and then returns 9.
abbrev pub down : FunctionInstance
down =
    function (ty.I32 ∷ []) (ty.I32 ∷ [])
    (Then (local 0) (Nested IfKind block.Empty
    (Then (local 0)
    (Then (I32Const 1) (Then (Numeric (Binary W32 Sub)) (Then (Control (ReturnCall 0)) Empty))))
    (Then (I32Const 9) Empty)))

-- It calls the second function last, within two blocks and above operands.
abbrev pub calls_last_inside : FunctionInstance
calls_last_inside =
    function [] (ty.I32 ∷ [])
    (Then (I32Const 7)
    (Nested BlockKind block.Empty (Then (I32Const 8)
    (Nested BlockKind block.Empty (Then (Control (ReturnCall 1)) Empty) Empty)) Empty))

-- It calls the function of an entry last. The function must return an i32.
abbrev pub calls_entry_last : FunctionInstance
calls_entry_last =
    function (ty.I32 ∷ []) (ty.I32 ∷ [])
    (Then (local 0) (Then (Control (ReturnCallIndirect 0 0)) Empty))

-- The state of it and the function that returns 10.
abbrev pub with_ten : FunctionInstance → (fuel : ℕ) → State ⊥
with_ten f fuel = record { store = instance_of_two f ten; hosts = []; fuel = fuel }

-- A call of it, with room for one frame, for an entry of the table that `CallsEntry` has.
abbrev pub CallsEntryLast : (offset fuel : ℕ) → Ending → (left : ℕ) → Type 0
CallsEntryLast offset fuel ending left =
    Run NoHosts 1 no_frame (with_entries calls_entry_last (at 1 ∷ at 2 ∷ null ∷ []) [] fuel)
    (Invoking (I32 offset ∷ []) 0) ending
    (with_entries calls_entry_last (at 1 ∷ at 2 ∷ null ∷ []) [] left)

-- It calls the host function last, above an operand.
abbrev pub calls_host_last : FunctionInstance
calls_host_last =
    function [] (ty.I32 ∷ []) (Then (I32Const 7) (Then (Control (ReturnCall 1)) Empty))

-- The state with this function, the host function that counts, and its count.
abbrev pub counting_last : (count fuel : ℕ) → State ℕ
counting_last count fuel =
    record {
      store = store_with_host calls_host_last [] (ty.I32 ∷ []);
      hosts = count ∷ [];
      fuel = fuel;
    }

-- In a frame of the first instance, the next step of this body asks for memory.
abbrev pub AsksInFrame : Store → Body → Type 0
AsksInFrame store rest =
    AsksForMemory (next store no_frame
    (InFrame (record { arity = 0; values = []; rest = Empty })
    (record { instance = Some 0; locals = [] }) (Running [] rest)))
