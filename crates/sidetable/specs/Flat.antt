-- Flat code without marks: the operations of a tree in order. Each operation that does not continue with the next one has an entry.
use Rattle.sidetable.specs.declared.operations.Entry.{Entry}
use Rattle.std.specs.Prelude.{ℕ, suc, ◌+◌, ◌-◌, List, [], ◌∷◌, ◌++◌, map, max, Option, Some, slice_get, unwrap_or}
use Rattle.core_types.specs.declared.op.ControlOp.{ControlOp}
use Rattle.core_types.specs.declared.op.ControlOp.TheVariants as control
use Rattle.core_types.specs.declared.op.MemArg.{MemArg}
use Rattle.core_types.specs.declared.op.MemoryOp.{MemoryOp}
use Rattle.core_types.specs.declared.op.MemoryOp.TheVariants as memory
use Rattle.core_types.specs.declared.op.ParametricOp.TheVariants.{Select}
use Rattle.core_types.specs.declared.op.PlainOp.{PlainOp}
use Rattle.core_types.specs.declared.op.PlainOp.TheVariants as plain
use Rattle.meaning.specs.structure.Bodies.{Kind, BlockKind, LoopKind, IfKind, Body, Empty, Then, Nested, IfElse}
use Rattle.sidetable.specs.declared.counts.Counts.{Counts}
use Rattle.sidetable.specs.Counts.{Signatures, block_counts, behind, counts_of, changed, less, height_or_zero}

-- Where the operation continues, how many values are kept, and the height below them, which also counts the locals. A label is known by
-- the entry of the branches to it.
abbrev pub entry_of : (target kept height : ℕ) → Entry
entry_of target kept height = record { target = target; kept = kept; height = height }

pub data FlatOp : Type 0 where
  -- an instruction that continues with the next operation, calls or traps
  Plain : (op : PlainOp) → FlatOp
  -- the start of a block or a loop
  Enter : FlatOp
  -- the start of an if, and where it continues if the condition is zero
  If : (entry : Entry) → FlatOp
  -- past the second body of an if
  Jump : (entry : Entry) → FlatOp
  Br : (entry : Entry) → FlatOp
  BrIf : (entry : Entry) → FlatOp
  BrTable : (entries : List Entry) (default : Entry) → FlatOp
  Return : (entry : Entry) → FlatOp
  -- after the operations of a function: its frame is left with that many results
  Leave : (results : ℕ) → FlatOp

-- ---- what no run depends on: alignments, and the types of a select (Memory Instructions, Parametric Instructions)

abbrev pub at_offset : ℕ → MemArg
at_offset offset = record { align = 0; offset = offset }

abbrev pub without_alignment : MemoryOp → MemoryOp
without_alignment (memory.Load op argument) = memory.Load op (at_offset argument.offset)
without_alignment (memory.Store op argument) = memory.Store op (at_offset argument.offset)
without_alignment op = op

abbrev pub without_annotations : PlainOp → PlainOp
without_annotations (plain.SelectTyped types) = plain.Parametric Select
without_annotations (plain.Memory op) = plain.Memory (without_alignment op)
without_annotations op = op

-- The number of operations that a body leaves.
abbrev pub size : Body → ℕ
size Empty = 0
size (Then op rest) = suc (size rest)
size (Nested kind type inner rest) = suc (size inner + size rest)
size (IfElse type inner other rest) = suc (size inner + suc (size other + size rest))

-- The entry of the label of a number, of those around, from the inside out.
abbrev pub entry_at : Entry → List Entry → ℕ → Entry
entry_at outermost labels label = unwrap_or (slice_get labels label) outermost

-- An instruction without a body, within these labels. The outermost label is the function's.
abbrev pub flat_control : Entry → List Entry → ControlOp → FlatOp
flat_control outermost labels (control.Br label) = Br (entry_at outermost labels label)
flat_control outermost labels (control.BrIf label) = BrIf (entry_at outermost labels label)
flat_control outermost labels control.Return = Return outermost
flat_control outermost labels op = Plain (plain.Control op)

abbrev pub flat_op : Entry → List Entry → PlainOp → FlatOp
flat_op outermost labels (plain.Control op) = flat_control outermost labels op
flat_op outermost labels (plain.BrTable t) =
    BrTable (map (entry_at outermost labels) t.labels) (entry_at outermost labels t.default)
flat_op outermost labels op = Plain (without_annotations op)

-- ---- blocks

-- The operation at which a body of this kind begins. An if has the entry of what follows if the condition is zero.
abbrev pub start_op : Kind → Entry → FlatOp
start_op BlockKind second = Enter
start_op LoopKind second = Enter
start_op IfKind second = If second

-- What a branch to the label of a block keeps, and where it continues. A loop restarts at its start.
abbrev pub label_entry : Kind → Counts → (start behind height : ℕ) → Entry
label_entry BlockKind c start behind height = entry_of behind c.gives height
label_entry LoopKind c start behind height = entry_of start c.takes height
label_entry IfKind c start behind height = entry_of behind c.gives height

-- The height within a block of this kind at first, the height below its parameters, and the height after it. An if takes its condition
-- before its parameters.
abbrev pub inside_height : Kind → Option ℕ → Option ℕ
inside_height BlockKind h = h
inside_height LoopKind h = h
inside_height IfKind h = less 1 h

abbrev pub base_height : Kind → Counts → Option ℕ → ℕ
base_height kind c h = height_or_zero (inside_height kind h) - c.takes

abbrev pub behind_height : Kind → Counts → Option ℕ → Option ℕ
behind_height kind c h = changed c (inside_height kind h)

-- ---- bodies

module _ (s : Signatures) (outermost : Entry) where
  -- The operations of a body, the first of which is at a place, within these labels and from this height.
  abbrev pub flat : (labels : List Entry) → (height : Option ℕ) → (at : ℕ) → Body → List FlatOp
  flat labels h at Empty = []
  flat labels h at (Then op rest) =
      flat_op outermost labels op ∷ flat labels (behind (counts_of s op) h) (suc at) rest
  flat labels h at (Nested kind type inner rest) =
      start_op kind (entry_of (suc at + size inner) (block_counts s type).takes
      (base_height kind (block_counts s type) h)) ∷
      (flat (label_entry kind (block_counts s type) at (suc at + size inner)
      (base_height kind (block_counts s type) h) ∷ labels) (inside_height kind h) (suc at) inner
      ++ flat labels (behind_height kind (block_counts s type) h) (suc at + size inner) rest)
  flat labels h at (IfElse type inner other rest) =
      If (entry_of (suc (suc at + size inner)) (block_counts s type).takes
      (base_height IfKind (block_counts s type) h)) ∷
      (flat (label_entry IfKind (block_counts s type) at (suc (suc at + size inner) + size other)
      (base_height IfKind (block_counts s type) h) ∷ labels) (inside_height IfKind h) (suc at) inner
      ++ (Jump (entry_of (suc (suc at + size inner) + size other) (block_counts s type).gives
      (base_height IfKind (block_counts s type) h)) ∷
      (flat (label_entry IfKind (block_counts s type) at (suc (suc at + size inner) + size other)
      (base_height IfKind (block_counts s type) h) ∷ labels) (inside_height IfKind h)
      (suc (suc at + size inner)) other
      ++ flat labels (behind_height IfKind (block_counts s type) h)
      (suc (suc at + size inner) + size other) rest)))

-- The greatest height of the places that are reached.
abbrev pub greatest : Signatures → (height : Option ℕ) → Body → ℕ
greatest s h Empty = height_or_zero h
greatest s h (Then op rest) = max (height_or_zero h) (greatest s (behind (counts_of s op) h) rest)
greatest s h (Nested kind type inner rest) =
    max (height_or_zero h) (max (greatest s (inside_height kind h) inner)
    (greatest s (behind_height kind (block_counts s type) h) rest))
greatest s h (IfElse type inner other rest) =
    max (height_or_zero h) (max (max (greatest s (inside_height IfKind h) inner)
    (greatest s (inside_height IfKind h) other))
    (greatest s (behind_height IfKind (block_counts s type) h) rest))

-- ---- functions

-- The label around a function's body, which begins at a place. Like a return, a branch to it leaves the function with the results.
abbrev pub function_entry : (locals results at : ℕ) → Body → Entry
function_entry locals results at body = entry_of (at + size body) results locals

-- The operations of a function from a place on: those of its body, and the one that leaves its frame.
abbrev pub function_operations : Signatures → (locals results at : ℕ) → Body → List FlatOp
function_operations s locals results at body =
    flat s (function_entry locals results at body) (function_entry locals results at body ∷ [])
    (Some locals) at body
    ++ Leave results ∷ []

-- The greatest height in its frame. The results may be above all heights of its body.
abbrev pub function_greatest : Signatures → (locals results : ℕ) → Body → ℕ
function_greatest s locals results body = max (locals + results) (greatest s (Some locals) body)
