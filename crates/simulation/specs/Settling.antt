-- Labels that are left, at cost 0, while the code stays at its place.
use Rattle.std.specs.Prelude.{◌≡◌, ◌⊎◌, ℕ, suc, ◌+◌, ◌<◌, List, [], ◌∷◌, ◌++◌, drop, map}
use Rattle.core_types.specs.declared.op.BlockType.{BlockType}
use Rattle.core_types.specs.declared.op.BranchTable.{BranchTable}
use Rattle.core_types.specs.declared.op.ControlOp.TheVariants as control
use Rattle.core_types.specs.declared.op.MemoryOp.{MemoryOp}
use Rattle.core_types.specs.declared.op.MemoryOp.TheVariants as memory
use Rattle.core_types.specs.declared.op.ParametricOp.TheVariants.{Select}
use Rattle.core_types.specs.declared.op.PlainOp.{PlainOp}
use Rattle.core_types.specs.declared.op.PlainOp.TheVariants as plain
use Rattle.core_types.specs.declared.outcome.Val.{Val}
use Rattle.meaning.specs.structure.Bodies.{Body, BlockKind, LoopKind, IfKind, Empty, Then, Nested, IfElse}
use Rattle.meaning.specs.execution.Configurations.{Configuration, Frame, InLabel, Label, Running}
use Rattle.meaning.specs.execution.Instructions.{Goes, next}
use Rattle.meaning.specs.execution.Store.{Store}
use Rattle.sidetable.specs.Flat.{without_annotations, FlatOp, Plain, Enter, If, Jump, Br, BrIf, BrTable, Return, Leave, entry_at, entry_of, size}
use Rattle.sidetable.specs.declared.operations.Entry.{Entry}
use Rattle.simulation.specs.Standing.{FrameCode, StandsIn, values_under}

-- A configuration within labels, the innermost first.
abbrev pub inside_labels : List Label → Configuration → Configuration
inside_labels [] x = x
inside_labels (label ∷ labels) x = inside_labels labels (InLabel label x)

-- What runs in a frame.
abbrev pub in_frame : List Val → List Label → Body → Configuration
in_frame values labels rest = inside_labels labels (Running values rest)

-- The steps leave labels only.
pub data LeavesTo (store : Store) (frame : Frame) : Configuration → Configuration → Type 0 where
  stay : {c : Configuration} → LeavesTo store frame c c
  leave : {c d e : Configuration} → next store frame c ≡ Goes 0 store frame d
      → LeavesTo store frame d e → LeavesTo store frame c e

-- There is a jump at this place, and the rest of a label is after it.
pub record IsAtJump (f : FrameCode) (at : ℕ) (values : List Val) (label : Label)
    (labels : List Label)
    : Type 0 where
  pub onward : ℕ
  pub later : at < onward
  pub kept : ℕ
  pub height : ℕ
  pub more : List FlatOp
  pub placed : drop at f.operations ≡ Jump (entry_of onward kept height) ∷ more
  pub stands : StandsIn f onward (values ++ label.values) labels label.rest

-- No label can be left at this place.
abbrev pub IsSettled : FrameCode → ℕ → List Val → List Label → Body → Type 0
IsSettled f at values [] Empty = Unit {0}
IsSettled f at values (label ∷ labels) Empty = IsAtJump f at values label labels
IsSettled f at values labels (Then op rest) = Unit {0}
IsSettled f at values labels (Nested kind type inner rest) = Unit {0}
IsSettled f at values labels (IfElse type inner other rest) = Unit {0}

-- What is left at this place, after labels were left.
pub record Settles (store : Store) (frame : Frame) (f : FrameCode) (at : ℕ) (values : List Val)
    (labels : List Label) (rest : Body)
    : Type 0 where
  pub values' : List Val
  pub labels' : List Label
  pub rest' : Body
  pub leaves : LeavesTo store frame (in_frame values labels rest) (in_frame values' labels' rest')
  pub stands : StandsIn f at values' labels' rest'
  pub same : values' ++ values_under labels' ≡ values ++ values_under labels
  pub settled : IsSettled f at values' labels' rest'

-- How the body begins, if this operation is here.
abbrev pub BeginsWith : Entry → List Entry → (at : ℕ) → FlatOp → Body → Type 0
BeginsWith outermost entries at (Plain op) body =
    (written : PlainOp) × (rest : Body) × (body ≡ Then written rest)
    × (op ≡ without_annotations written)
BeginsWith outermost entries at Enter body =
    (type : BlockType) × (inner rest : Body)
    × ((body ≡ Nested BlockKind type inner rest) ⊎ (body ≡ Nested LoopKind type inner rest))
BeginsWith outermost entries at (If e) body =
    (type : BlockType) × (inner rest : Body)
    × (((body ≡ Nested IfKind type inner rest) × (e.target ≡ suc at + size inner))
    ⊎ ((other : Body) × (body ≡ IfElse type inner other rest)
    × (e.target ≡ suc (suc at + size inner))))
BeginsWith outermost entries at (Jump e) body = body ≡ Empty
BeginsWith outermost entries at (Leave results) body = body ≡ Empty
BeginsWith outermost entries at (Br e) body =
    (label : ℕ) × (rest : Body) × (body ≡ Then (plain.Control (control.Br label)) rest)
    × (e ≡ entry_at outermost entries label)
BeginsWith outermost entries at (BrIf e) body =
    (label : ℕ) × (rest : Body) × (body ≡ Then (plain.Control (control.BrIf label)) rest)
    × (e ≡ entry_at outermost entries label)
BeginsWith outermost entries at (BrTable es e) body =
    (t : BranchTable) × (rest : Body) × (body ≡ Then (plain.BrTable t) rest)
    × (es ≡ map (entry_at outermost entries) t.labels)
    × (e ≡ entry_at outermost entries t.default)
BeginsWith outermost entries at (Return e) body =
    (rest : Body) × (body ≡ Then (plain.Control control.Return) rest) × (e ≡ outermost)

-- ---- annotations

-- A memory instruction that is not a load or a store has no alignment.
abbrev pub HasNoAlignment : MemoryOp → Type 0
HasNoAlignment (memory.Load op argument) = ⊥
HasNoAlignment (memory.Store op argument) = ⊥
HasNoAlignment op = Unit {0}

-- An instruction that represents only itself, and no other one that was written with an alignment or with types.
abbrev pub HasNoAnnotations : PlainOp → Type 0
HasNoAnnotations (plain.SelectTyped types) = ⊥
HasNoAnnotations (plain.Parametric Select) = ⊥
HasNoAnnotations (plain.Memory op) = HasNoAlignment op
HasNoAnnotations op = Unit {0}
