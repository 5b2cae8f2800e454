-- Alignments and the types of a select change nothing.
use Rattle.std.proofs.Common.{◌≡◌, ℕ, List, [], ◌∷◌, refl}
use Rattle.std.specs.Prelude.{Option, Some, None}
use Rattle.core_types.specs.declared.op.MemoryOp.{MemoryOp}
use Rattle.core_types.specs.declared.op.MemoryOp.TheVariants as memory
use Rattle.core_types.specs.declared.op.PlainOp.{PlainOp}
use Rattle.core_types.specs.declared.op.PlainOp.TheVariants as plain
use Rattle.core_types.specs.declared.outcome.Val.{Val}
use Rattle.core_types.specs.declared.outcome.Val.TheVariants.{I32, I64, FuncRef, ExternRef}
use Rattle.meaning.specs.execution.Configurations.{Frame}
use Rattle.meaning.specs.execution.Effects.{effect, in_memory, memory_effect, memory_or_data_effect}
use Rattle.meaning.specs.execution.Memories.{MemoryInstance}
use Rattle.meaning.specs.execution.Store.{Store}
use Rattle.sidetable.specs.Flat.{without_alignment, without_annotations}

in-its-memory : (store : Store) (frame : Frame) (address : ℕ) (m : MemoryInstance) (op : MemoryOp) (values : List Val)
    → memory_effect store frame address m (without_alignment op) values ≡ memory_effect store frame address m op values
in-its-memory store frame address m (memory.Load op argument) [] = refl
in-its-memory store frame address m (memory.Load op argument) (I32 i ∷ values) = refl
in-its-memory store frame address m (memory.Load op argument) (I64 i ∷ values) = refl
in-its-memory store frame address m (memory.Load op argument) (FuncRef r ∷ values) = refl
in-its-memory store frame address m (memory.Load op argument) (ExternRef r ∷ values) = refl
in-its-memory store frame address m (memory.Store op argument) [] = refl
in-its-memory store frame address m (memory.Store op argument) (v ∷ []) = refl
in-its-memory store frame address m (memory.Store op argument) (v ∷ (I32 i ∷ values)) = refl
in-its-memory store frame address m (memory.Store op argument) (v ∷ (I64 i ∷ values)) = refl
in-its-memory store frame address m (memory.Store op argument) (v ∷ (FuncRef r ∷ values)) = refl
in-its-memory store frame address m (memory.Store op argument) (v ∷ (ExternRef r ∷ values)) = refl
in-its-memory store frame address m memory.Size values = refl
in-its-memory store frame address m memory.Grow values = refl
in-its-memory store frame address m memory.Fill values = refl
in-its-memory store frame address m memory.Copy values = refl
in-its-memory store frame address m (memory.Init segment) values = refl
in-its-memory store frame address m (memory.DataDrop segment) values = refl

in-some-memory : (store : Store) (frame : Frame) (found : Option (ℕ × MemoryInstance)) (op : MemoryOp) (values : List Val)
    → in_memory store frame found (without_alignment op) values ≡ in_memory store frame found op values
in-some-memory store frame None op values = refl
in-some-memory store frame (Some (address, m)) op values = in-its-memory store frame address m op values

of-memory : (store : Store) (frame : Frame) (op : MemoryOp) (values : List Val) → memory_or_data_effect store frame (without_alignment op) values ≡ memory_or_data_effect store frame op values
of-memory store frame (memory.Load op argument) values = in-some-memory store frame _ (memory.Load op argument) values
of-memory store frame (memory.Store op argument) values = in-some-memory store frame _ (memory.Store op argument) values
of-memory store frame memory.Size values = refl
of-memory store frame memory.Grow values = refl
of-memory store frame memory.Fill values = refl
of-memory store frame memory.Copy values = refl
of-memory store frame (memory.Init segment) values = refl
of-memory store frame (memory.DataDrop segment) values = refl

pub same-effect : (store : Store) (frame : Frame) (op : PlainOp) (values : List Val) → effect store frame (without_annotations op) values ≡ effect store frame op values
same-effect store frame (plain.Control op) values = refl
same-effect store frame (plain.BrTable table) values = refl
same-effect store frame (plain.Reference op) values = refl
same-effect store frame (plain.Parametric op) values = refl
same-effect store frame (plain.SelectTyped types) values = refl
same-effect store frame (plain.Variable op) values = refl
same-effect store frame (plain.Table op) values = refl
same-effect store frame (plain.Memory op) values = of-memory store frame op values
same-effect store frame (plain.Numeric op) values = refl
same-effect store frame (plain.I32Const n) values = refl
same-effect store frame (plain.I64Const n) values = refl
