-- What each operation needs and leads to, where the machine runs.
use Rattle.std.proofs.Common.{ℕ, ◌+◌, ◌<◌, ◌^◌, get_or, sym, subst, arith}
use Rattle.core_types.specs.declared.op.LoadOp.{LoadOp}
use Rattle.core_types.specs.declared.op.LoadOp.TheVariants.{Whole}
use Rattle.core_types.specs.declared.op.MemoryOp.TheVariants as memory
use Rattle.core_types.specs.declared.op.PlainOp.TheVariants as plain
use Rattle.core_types.specs.declared.op.Width.TheVariants.{W32}
use Rattle.core_types.specs.declared.types.RefType.TheVariants as ref
use Rattle.core_types.specs.declared.types.ValType.TheVariants.{I32}
use Rattle.cells.specs.Cells.{IsCellOf}
use Rattle.sidetable.specs.Flat.{Plain, at_offset}
use Rattle.sidetable.specs.FlatModules.{IsFlatModule}
use Rattle.sidetable.specs.declared.flat_module.FlatModule.{FlatModule}
use Rattle.sidetable.specs.Packing.{IsOtherWithin, IsTransferWithin, IsWithin, branch_entries, load_op, other_op, store_op, transfer_op, unpacked}
use Rattle.sidetable.specs.SideTables.{branch_range_of, constant_of, entry_of_number, pair_of}
use Rattle.sidetable.specs.declared.operations.OtherInstruction.{OtherInstruction}
use Rattle.sidetable.specs.declared.operations.OtherInstruction.TheVariants as other
use Rattle.sidetable.specs.declared.operations.PackedOp.{PackedOp}
use Rattle.sidetable.specs.declared.operations.PackedOp.TheVariants as op
use Rattle.sidetable.specs.declared.operations.TransferInstruction.{TransferInstruction}
use Rattle.sidetable.specs.declared.operations.TransferInstruction.TheVariants as transfer
use Rattle.simulation.specs.Runs.{Ghost}
use Rattle.interpreter.specs.Running.{Machine, RunsAt, cells_in, height_in}
use Rattle.interpreter.specs.Operations.{IsReadyFor, HasOperands, ExecutesIn, OperationsExecute, IsReadyForOther, ExecutesOther, Reads, IsReadyForTransfer, ExecutesTransfer}
use Rattle.interpreter.specs.Worlds.{World}
use Rattle.interpreter.specs.declared.machine.CallKind.TheVariants.{Nested, Tail}
use Rattle.interpreter.proofs.Calling.{calls-there, calls-through-there}
use Rattle.interpreter.proofs.Control.{branches-by-table-there, branches-if-there, branches-there, chooses-there, enters-there, jumps-there}
use Rattle.interpreter.proofs.Forms.{IsAt, own-operands}
use Rattle.interpreter.proofs.Instructions.{does-nothing-there, drops-there, fails-there, gets-local-there, puts-i32-there, puts-i64-there, puts-null-there}
use Rattle.interpreter.proofs.Instructions.{selects-there, sets-local-there, tees-local-there, tests-null-there}
use Rattle.interpreter.proofs.Memories.{gets-global-there, loads-there, measures-there, refers-there, sets-global-there, stores-there}
use Rattle.interpreter.proofs.Numbers.{adds-there, binary-there, unary-there}
use Rattle.interpreter.proofs.Placing.{stands-there}

module _ (w : World) (m : Machine) (g : Ghost) (r : RunsAt w m g) where
  transfers : (kind : TransferInstruction) (n : ℕ) → IsAt m g (transfer_op w.flat.tables kind n) → IsTransferWithin w.flat.tables kind n → IsReadyForTransfer w m kind n × ExecutesTransfer w m g kind n
  transfers transfer.Unreachable n b within = (tt, fails-there w m g r b)
  transfers transfer.Jump n b within = let (later, leads) = jumps-there w m g r (entry_of_number w.flat.tables n) b in ((within, later), leads)
  transfers transfer.Br n b within = let (needs, leads) = branches-there w m g r (entry_of_number w.flat.tables n) b in ((needs.0, within, needs.1), leads)
  transfers transfer.BrTable n b within =
      let range = branch_range_of w.flat.tables n in
      let (needs, leads) = branches-by-table-there w m g r (branch_entries w.flat.tables range) (entry_of_number w.flat.tables range.default) b in
      ((own-operands g m 1 needs.0, within.0, within.1, within.2, needs.1), leads)
  transfers transfer.Return n b within = (within, (b.more, b.there))
  transfers transfer.CallIndirect n b within =
      let (needs, leads) = calls-through-there w m g r Nested (pair_of w.flat.tables n).first (pair_of w.flat.tables n).second b in
      ((own-operands g m 1 needs.0, within, needs.1, needs.2, needs.3), leads)
  transfers transfer.ReturnCall n b within = calls-there w m g r Tail n b
  transfers transfer.ReturnCallIndirect n b within =
      let (needs, leads) = calls-through-there w m g r Tail (pair_of w.flat.tables n).first (pair_of w.flat.tables n).second b in
      ((own-operands g m 1 needs.0, within, needs.1, needs.2, needs.3), leads)

  others : (kind : OtherInstruction) (n : ℕ) → IsAt m g (Plain (other_op w.flat.tables kind n)) → IsOtherWithin w.flat.tables kind n → IsReadyForOther w m kind n × ExecutesOther w m g kind n
  others other.Nop n b within = (tt, does-nothing-there w m g r b)
  others other.DropOperand n b within = let (own, leads) = drops-there w m g r b in (own-operands g m 1 own, leads)
  others other.Select n b within = let (own, leads) = selects-there w m g r b in (own-operands g m 3 own, leads)
  others (other.Unary i) n b within = let (needs, leads) = unary-there w m g r i b in ((own-operands g m 1 needs.0, needs.1), leads)
  others other.GlobalGet n b within = gets-global-there w m g r n b
  others other.GlobalSet n b within = let (needs, leads) = sets-global-there w m g r n b in ((own-operands g m 1 needs.0, needs.1, needs.2, needs.3, needs.4), leads)
  others other.I64Const n b within = let (room, leads) = puts-i64-there w m g r (constant_of w.flat.tables n) b in ((room, within), leads)
  others other.RefNullFunc n b within = puts-null-there w m g r ref.FuncRef b
  others other.RefNullExtern n b within = puts-null-there w m g r ref.ExternRef b
  others other.RefIsNull n b within = (tt, tests-null-there w m g r b)
  others other.RefFunc n b within = refers-there w m g r n b
  others other.MemorySize n b within = measures-there w m g r b
  others kind n b within = (within, (b.more, b.there))

  loads : (op : LoadOp) (offset : ℕ) → IsAt m g (Plain (plain.Memory (memory.Load op (at_offset offset)))) → (HasOperands m 1 × IsCellOf I32 m.operand) × Reads w m g op offset
  loads op offset b = let (needs, leads) = loads-there w m g r op offset b in ((own-operands g m 1 needs.0, needs.1), leads)

  turned : (o : PackedOp) → IsAt m g (unpacked w.flat.tables o) → IsWithin w.flat.tables o → IsReadyFor w m o × ExecutesIn w m g o
  turned (op.LocalGet x) b within = gets-local-there w m g r x b
  turned (op.LocalSet x) b within = let (needs, leads) = sets-local-there w m g r x b in ((own-operands g m 1 needs.0, omega (arith, needs.0.0, needs.1)), leads)
  turned (op.LocalTee x) b within = let (needs, leads) = tees-local-there w m g r x b in ((own-operands g m 1 needs.0, omega (arith, needs.0.0, needs.1)), leads)
  turned (op.I32Const n) b within = puts-i32-there w m g r n b
  turned op.I32Add b within = let (own, leads) = adds-there w m g r b in (own-operands g m 2 own, leads)
  turned op.Enter b within = (tt, enters-there w m g r b)
  turned (op.If n) b within = let (some, leads) = chooses-there w m g r (entry_of_number w.flat.tables n) b in ((own-operands g m 1 some, within), leads)
  turned (op.BrIf n) b within = let (needs, leads) = branches-if-there w m g r (entry_of_number w.flat.tables n) b in ((own-operands g m 1 needs.0, within, needs.1), leads)
  turned (op.Call n) b within = calls-there w m g r Nested n b
  turned (op.Leave n) b within = (tt, (b.more, b.there))
  turned (op.I32Load offset) b within = loads (Whole W32) offset b
  turned (op.Binary i) b within = let (needs, leads) = binary-there w m g r i b in ((own-operands g m 2 needs.0, needs.1, needs.2), leads)
  turned (op.Load i offset) b within = loads (load_op i) offset b
  turned (op.Store i offset) b within = let (needs, leads) = stores-there w m g r (store_op i) offset b in ((own-operands g m 2 needs.0, needs.1), leads)
  turned (op.Transfer kind n) b within = transfers kind n b within
  turned (op.Other kind n) b within = others kind n b within

-- The flat code is that of the instance's module.
code-there : (w : World) (m : Machine) (g : Ghost) → RunsAt w m g → IsFlatModule w.instance.loaded.value.source w.flat
code-there w m g r = subst (λ (flat : FlatModule). IsFlatModule w.instance.loaded.value.source flat) (sym r.instance.flat) r.instance.loaded.flat

pub operations-execute : OperationsExecute
operations-execute w m g r =
    let p = stands-there w.flat.tables w.flat.operations.items (code-there w m g r).within g (cells_in g m) m.place (height_in m) r.operations r.runs in
    (p.inside, λ d. turned w m g r (get_or w.flat.operations.items m.place d) (record { runs = r.runs; more = p.more; there = p.there d }) (p.within d))

-- Places have 32 bits.
pub place-fits : (w : World) (m : Machine) (g : Ghost) → RunsAt w m g → m.place + 1 < 2 ^ 32
place-fits w m g r = let few = (code-there w m g r).few in let inside = (operations-execute w m g r).0 in omega (arith, few, inside)
