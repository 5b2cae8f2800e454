-- Where code is, seen from a configuration: bodies at places of flat code, and the labels around them.
use Rattle.std.specs.Prelude.{◌≡◌, ◌⊎◌, ℕ, ◌+◌, ◌<◌, ◌≤◌, List, [], ◌∷◌, ◌++◌, length, drop, Option, Some, None}
use Rattle.core_types.specs.declared.outcome.Val.{Val}
use Rattle.meaning.specs.structure.Bodies.{Body, Kind, BlockKind, LoopKind, IfKind, Empty, Then, Nested, IfElse}
use Rattle.meaning.specs.execution.Configurations.{Label, continue_with}
use Rattle.sidetable.specs.Counts.{Signatures, behind, block_counts, counts_of}
use Rattle.sidetable.specs.Flat.{FlatOp, Jump, Leave, behind_height, entry_of, flat, greatest, size}
use Rattle.sidetable.specs.declared.operations.Entry.{Entry}

-- The code of a function. It has what its body refers to, the operations that contain it, and the entry of the label around its body. It
-- also has the number of its locals, and its greatest height.
pub record FrameCode : Type 0 where
  pub signatures : Signatures
  pub operations : List FlatOp
  pub outermost : Entry
  pub locals : ℕ
  pub greatest : ℕ

-- The height at the end of a body, if its end is reached.
abbrev pub last_height : Signatures → Option ℕ → Body → Option ℕ
last_height s h Empty = h
last_height s h (Then op rest) = last_height s (behind (counts_of s op) h) rest
last_height s h (Nested kind type inner rest) =
    last_height s (behind_height kind (block_counts s type) h) rest
last_height s h (IfElse type inner other rest) =
    last_height s (behind_height IfKind (block_counts s type) h) rest

-- The number of operands that a body of this kind takes before its parameters: an if takes its condition.
abbrev pub conditions : Kind → ℕ
conditions BlockKind = 0
conditions LoopKind = 0
conditions IfKind = 1

-- If the height is reached, it is this.
abbrev pub EndsAt : Option ℕ → ℕ → Type 0
EndsAt None last = Unit {0}
EndsAt (Some h) last = h ≡ last

-- A body is at a place, within these labels and from this height. It ends at a place, with that height.
pub record StandsAt (f : FrameCode) (labels : List Entry) (height at : ℕ) (body : Body)
    (end last : ℕ)
    : Type 0 where
  pub more : List FlatOp
  pub placed : drop at f.operations ≡
      flat f.signatures f.outermost labels (Some height) at body ++ more
  pub ends : at + size body ≡ end
  pub lasts : EndsAt (last_height f.signatures (Some height) body) last
  pub room : greatest f.signatures (Some height) body ≤ f.greatest

-- What ends at a place continues at that one. Both are the same, or there is a jump.
abbrev pub GoesOnAt : FrameCode → (at onward : ℕ) → Type 0
GoesOnAt f at onward =
    (onward ≡ at) ⊎ ((at < onward) × (kept height : ℕ) × (more : List FlatOp)
    × (drop at f.operations ≡ Jump (entry_of onward kept height) ∷ more))

-- The number of values under labels, from the inside out.
abbrev pub under : List Label → ℕ
under [] = 0
under (label ∷ labels) = length label.values + under labels

-- The values under them.
abbrev pub values_under : List Label → List Val
values_under [] = []
values_under (label ∷ labels) = label.values ++ values_under labels

-- A label whose inside ends at a place with a height.
pub record LabelStands (f : FrameCode) (label : Label) (outer : List Label) (entries : List Entry)
    (at last : ℕ)
    (Further : List Entry → ℕ → ℕ → Type 0)
    : Type 0 where
  pub entry : Entry
  pub others : List Entry
  pub onward : ℕ
  pub end : ℕ
  pub outer_last : ℕ
  pub entries_are : entries ≡ entry ∷ others
  pub kept : entry.kept ≡ label.arity
  pub height : entry.height ≡ f.locals + (length label.values + under outer)
  pub goes_on : GoesOnAt f at onward
  pub leaving : StandsAt f others last onward label.rest end outer_last
  pub branching : StandsAt f others (entry.height + entry.kept) entry.target
      (continue_with label.continuation label.rest) end outer_last
  pub further : Further others end outer_last

-- The code of a function is at its end: there its frame is left with its results.
abbrev pub IsAtEnd : FrameCode → (at : ℕ) → Type 0
IsAtEnd f at = (more : List FlatOp) × (drop at f.operations ≡ Leave f.outermost.kept ∷ more)

-- The labels around what ends at a place with a height, from the inside out. After the outermost one, the code is at its end.
abbrev pub LabelsStand : FrameCode → List Label → List Entry → (at last : ℕ) → Type 0
LabelsStand f [] entries at last =
    IsAtEnd f at × (last ≡ f.locals + f.outermost.kept)
LabelsStand f (label ∷ labels) entries at last =
    LabelStands f label labels entries at last
    (λ others end outer_last. LabelsStand f labels others end outer_last)

-- The state in a frame: at a place, with these values, within these labels, this is left.
pub record StandsIn (f : FrameCode) (at : ℕ) (values : List Val) (labels : List Label) (rest : Body)
    : Type 0 where
  pub entries : List Entry
  pub end : ℕ
  pub last : ℕ
  pub here : StandsAt f entries (f.locals + (length values + under labels)) at rest end last
  pub around : LabelsStand f labels entries end last
