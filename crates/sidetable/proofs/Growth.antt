-- Side tables that grow: what has a number keeps it.
use Rattle.std.proofs.Common.{◌≡◌, ℕ, zero, suc, ◌+◌, ◌<◌, List, [], ◌∷◌, ◌++◌, length, take, drop, get_or, refl, ap, ap₂, sym, ◌∙◌, arith, append_assoc, length-append}
use Rattle.std.proofs.lemmas.List.{get_or_append_left, append-nil}
use Rattle.std.proofs.lemmas.List.Elements.{All-head, All-tail}
use Rattle.std.specs.List.{All}
use Rattle.sidetable.specs.Packing.{IsOtherWithin, IsTransferWithin, IsWithin, branch_entries, made, other_op, transfer_op, unpacked}
use Rattle.sidetable.specs.SideTables.{Continues, Grows, SideTables, branch_range_of, constant_of, entry_of_number, pair_of}
use Rattle.sidetable.specs.Flat.{FlatOp, BrTable}
use Rattle.sidetable.specs.declared.operations.Entry.{Entry}
use Rattle.sidetable.specs.declared.operations.PackedOp.{PackedOp}
use Rattle.sidetable.specs.declared.operations.PackedOp.TheVariants as packed
use Rattle.sidetable.specs.declared.operations.OtherInstruction.{OtherInstruction}
use Rattle.sidetable.specs.declared.operations.OtherInstruction.TheVariants as other
use Rattle.sidetable.specs.declared.operations.TransferInstruction.{TransferInstruction}
use Rattle.sidetable.specs.declared.operations.TransferInstruction.TheVariants as transfer
use Rattle.sidetable.specs.declared.side_tables.BranchRange.{BranchRange}

-- ---- lists that continue

pub continues-same : {X : Type 0} (xs : List X) → Continues xs xs
continues-same xs = ([], sym (append-nil xs))

pub continues-more : {X : Type 0} (xs ys zs : List X) → Continues xs ys → Continues ys zs → Continues xs zs
continues-more {X = X} xs ys zs (first, e) (second, f) = (first ++ second, f ∙ ap (λ (l : List X). l ++ second) e ∙ append_assoc xs first second)

continued-item : {X : Type 0} (xs ys : List X) (d : X) (n : ℕ) → Continues xs ys → n < length xs → get_or ys n d ≡ get_or xs n d
continued-item {X = X} xs ys d n (more, e) within = ap (λ (l : List X). get_or l n d) e ∙ get_or_append_left xs more d n within

continued-length : {X : Type 0} (xs ys : List X) (n : ℕ) → Continues xs ys → n < suc (length xs) → n < suc (length ys)
continued-length xs ys n (more, e) within = omega (arith, within, ap length e, length-append xs more)

continued-within : {X : Type 0} (xs ys : List X) (n : ℕ) → Continues xs ys → n < length xs → n < length ys
continued-within xs ys n (more, e) within = omega (arith, within, ap length e, length-append xs more)

take-continued : {X : Type 0} (xs more : List X) (count : ℕ) → count < suc (length xs) → take count (xs ++ more) ≡ take count xs
take-continued xs more zero within = refl
take-continued [] more (suc count) within = absurd (omega (arith, within))
take-continued {X = X} (x ∷ xs) more (suc count) within = ap (λ (l : List X). x ∷ l) (take-continued xs more count (omega (arith, within)))

drop-continued : {X : Type 0} (xs more : List X) (first count : ℕ) → first + count < suc (length xs) → take count (drop first (xs ++ more)) ≡ take count (drop first xs)
drop-continued xs more zero count within = take-continued xs more count (omega (arith, within))
drop-continued [] more (suc first) count within = absurd (omega (arith, within))
drop-continued (x ∷ xs) more (suc first) count within = drop-continued xs more first count (omega (arith, within))

-- ---- side tables that grow

pub grows-same : (t : SideTables) → Grows t t
grows-same t = record {
  entries = continues-same t.entries.items;
  branch_ranges = continues-same t.branch_ranges.items;
  constants = continues-same t.constants.items;
  pairs = continues-same t.pairs.items;
}

pub grows-more : (t u v : SideTables) → Grows t u → Grows u v → Grows t v
grows-more t u v g h = record {
  entries = continues-more t.entries.items u.entries.items v.entries.items g.entries h.entries;
  branch_ranges = continues-more t.branch_ranges.items u.branch_ranges.items v.branch_ranges.items g.branch_ranges h.branch_ranges;
  constants = continues-more t.constants.items u.constants.items v.constants.items g.constants h.constants;
  pairs = continues-more t.pairs.items u.pairs.items v.pairs.items g.pairs h.pairs;
}

module _ (t u : SideTables) (g : Grows t u) where
  entry-kept : (n : ℕ) → n < length t.entries.items → entry_of_number u n ≡ entry_of_number t n
  entry-kept n within = continued-item t.entries.items u.entries.items (record { target = 0; kept = 0; height = 0 }) n g.entries within

  entry-within : (n : ℕ) → n < length t.entries.items → n < length u.entries.items
  entry-within n within = continued-within t.entries.items u.entries.items n g.entries within

  range-kept : (n : ℕ) → n < length t.branch_ranges.items → branch_range_of u n ≡ branch_range_of t n
  range-kept n within = continued-item t.branch_ranges.items u.branch_ranges.items (record { first = 0; count = 0; default = 0 }) n g.branch_ranges within

  pair-kept : (n : ℕ) → n < length t.pairs.items → pair_of u n ≡ pair_of t n
  pair-kept n within = continued-item t.pairs.items u.pairs.items (record { first = 0; second = 0 }) n g.pairs within

  constant-kept : (n : ℕ) → n < length t.constants.items → constant_of u n ≡ constant_of t n
  constant-kept n within = continued-item t.constants.items u.constants.items 0 n g.constants within

  entries-kept : (r : BranchRange) → r.first + r.count < suc (length t.entries.items) → branch_entries u r ≡ branch_entries t r
  entries-kept r within = ap (λ (es : List Entry). take r.count (drop r.first es)) g.entries.1 ∙ drop-continued t.entries.items g.entries.0 r.first r.count within

  table-kept : (n : ℕ) → IsTransferWithin t transfer.BrTable n → transfer_op u transfer.BrTable n ≡ transfer_op t transfer.BrTable n
  table-kept n (range, entries, default) =
      ap (λ (r : BranchRange). BrTable (branch_entries u r) (entry_of_number u r.default)) (range-kept n range)
      ∙ ap₂ BrTable (entries-kept (branch_range_of t n) entries) (entry-kept (branch_range_of t n).default default)

  transfer-kept : (op : TransferInstruction) (n : ℕ) → IsTransferWithin t op n → transfer_op u op n ≡ transfer_op t op n
  transfer-kept transfer.Unreachable n within = refl
  transfer-kept transfer.Jump n within = rw (entry-kept n within) refl
  transfer-kept transfer.Br n within = rw (entry-kept n within) refl
  transfer-kept transfer.BrTable n within = table-kept n within
  transfer-kept transfer.Return n within = rw (entry-kept n within) refl
  transfer-kept transfer.CallIndirect n within = rw (pair-kept n within) refl
  transfer-kept transfer.ReturnCall n within = refl
  transfer-kept transfer.ReturnCallIndirect n within = rw (pair-kept n within) refl

  transfer-within : (op : TransferInstruction) (n : ℕ) → IsTransferWithin t op n → IsTransferWithin u op n
  transfer-within transfer.Unreachable n within = within
  transfer-within transfer.Jump n within = entry-within n within
  transfer-within transfer.Br n within = entry-within n within
  transfer-within transfer.BrTable n (range, entries, default) =
      rw (range-kept n range) (
        continued-within t.branch_ranges.items u.branch_ranges.items n g.branch_ranges range,
        continued-length t.entries.items u.entries.items ((branch_range_of t n).first + (branch_range_of t n).count) g.entries entries,
        entry-within (branch_range_of t n).default default,
      )
  transfer-within transfer.Return n within = entry-within n within
  transfer-within transfer.CallIndirect n within = continued-within t.pairs.items u.pairs.items n g.pairs within
  transfer-within transfer.ReturnCall n within = within
  transfer-within transfer.ReturnCallIndirect n within = continued-within t.pairs.items u.pairs.items n g.pairs within

  other-kept : (op : OtherInstruction) (n : ℕ) → IsOtherWithin t op n → other_op u op n ≡ other_op t op n
  other-kept other.Nop n within = refl
  other-kept other.DropOperand n within = refl
  other-kept other.Select n within = refl
  other-kept (other.Unary op) n within = refl
  other-kept other.GlobalGet n within = refl
  other-kept other.GlobalSet n within = refl
  other-kept other.I64Const n within = rw (constant-kept n within) refl
  other-kept other.RefNullFunc n within = refl
  other-kept other.RefNullExtern n within = refl
  other-kept other.RefIsNull n within = refl
  other-kept other.RefFunc n within = refl
  other-kept other.MemorySize n within = refl
  other-kept other.MemoryGrow n within = refl
  other-kept other.MemoryFill n within = refl
  other-kept other.MemoryCopy n within = refl
  other-kept other.MemoryInit n within = refl
  other-kept other.DataDrop n within = refl
  other-kept other.TableGet n within = refl
  other-kept other.TableSet n within = refl
  other-kept other.TableSize n within = refl
  other-kept other.TableGrow n within = refl
  other-kept other.TableFill n within = refl
  other-kept other.TableCopy n within = rw (pair-kept n within) refl
  other-kept other.TableInit n within = rw (pair-kept n within) refl
  other-kept other.ElemDrop n within = refl

  other-within : (op : OtherInstruction) (n : ℕ) → IsOtherWithin t op n → IsOtherWithin u op n
  other-within other.Nop n within = within
  other-within other.DropOperand n within = within
  other-within other.Select n within = within
  other-within (other.Unary op) n within = within
  other-within other.GlobalGet n within = within
  other-within other.GlobalSet n within = within
  other-within other.I64Const n within = continued-within t.constants.items u.constants.items n g.constants within
  other-within other.RefNullFunc n within = within
  other-within other.RefNullExtern n within = within
  other-within other.RefIsNull n within = within
  other-within other.RefFunc n within = within
  other-within other.MemorySize n within = within
  other-within other.MemoryGrow n within = within
  other-within other.MemoryFill n within = within
  other-within other.MemoryCopy n within = within
  other-within other.MemoryInit n within = within
  other-within other.DataDrop n within = within
  other-within other.TableGet n within = within
  other-within other.TableSet n within = within
  other-within other.TableSize n within = within
  other-within other.TableGrow n within = within
  other-within other.TableFill n within = within
  other-within other.TableCopy n within = continued-within t.pairs.items u.pairs.items n g.pairs within
  other-within other.TableInit n within = continued-within t.pairs.items u.pairs.items n g.pairs within
  other-within other.ElemDrop n within = within

  unpacked-kept : (p : PackedOp) → IsWithin t p → unpacked u p ≡ unpacked t p
  unpacked-kept (packed.LocalGet x) within = refl
  unpacked-kept (packed.LocalSet x) within = refl
  unpacked-kept (packed.LocalTee x) within = refl
  unpacked-kept (packed.I32Const n) within = refl
  unpacked-kept packed.I32Add within = refl
  unpacked-kept packed.Enter within = refl
  unpacked-kept (packed.If n) within = rw (entry-kept n within) refl
  unpacked-kept (packed.BrIf n) within = rw (entry-kept n within) refl
  unpacked-kept (packed.Call n) within = refl
  unpacked-kept (packed.Leave n) within = refl
  unpacked-kept (packed.I32Load n) within = refl
  unpacked-kept (packed.Binary op) within = refl
  unpacked-kept (packed.Load op n) within = refl
  unpacked-kept (packed.Store op n) within = refl
  unpacked-kept (packed.Transfer op n) within = transfer-kept op n within
  unpacked-kept (packed.Other op n) within = rw (other-kept op n within) refl

  within-kept : (p : PackedOp) → IsWithin t p → IsWithin u p
  within-kept (packed.LocalGet x) within = within
  within-kept (packed.LocalSet x) within = within
  within-kept (packed.LocalTee x) within = within
  within-kept (packed.I32Const n) within = within
  within-kept packed.I32Add within = within
  within-kept packed.Enter within = within
  within-kept (packed.If n) within = entry-within n within
  within-kept (packed.BrIf n) within = entry-within n within
  within-kept (packed.Call n) within = within
  within-kept (packed.Leave n) within = within
  within-kept (packed.I32Load n) within = within
  within-kept (packed.Binary op) within = within
  within-kept (packed.Load op n) within = within
  within-kept (packed.Store op n) within = within
  within-kept (packed.Transfer op n) within = transfer-within op n within
  within-kept (packed.Other op n) within = other-within op n within

  pub made-kept : (ops : List PackedOp) → All (IsWithin t) ops → made u ops ≡ made t ops
  made-kept [] within = refl
  made-kept (p ∷ ops) within = ap₂ (λ (o : FlatOp) (os : List FlatOp). o ∷ os) (unpacked-kept p (All-head (IsWithin t) p ops within)) (made-kept ops (All-tail (IsWithin t) p ops within))

  pub all-within-kept : (ops : List PackedOp) → All (IsWithin t) ops → All (IsWithin u) ops
  all-within-kept ops within = λ k d lt. within-kept (get_or ops k d) (within k d lt)
