-- Flattening, from the first operation with its marks to the last.
use Rattle.std.specs.Prelude.{Vec, ◌≡◌, ℕ, suc, ◌+◌, ◌<◌, ◌^◌, List, [], ◌∷◌, ◌++◌, length, map, max, Option, Some, None}
use Rattle.std.specs.List.{All}
use Rattle.std.specs.declared.alloc.Global.{Global}
use Rattle.core_types.specs.declared.op.Op.{Op}
use Rattle.meaning.specs.structure.Bodies.{Body, Part, Rests, first_part, other_parts, rests}
use Rattle.sidetable.specs.Completion.{AreCopies, ChangesEntries, Completes, IsLabelSince, ranges_since}
use Rattle.sidetable.specs.Counts.{GoesOnAt, Signatures}
use Rattle.core_types.specs.declared.module.Func.{Func}
use Rattle.sidetable.specs.Flat.{FlatOp, Jump, entry_of, flat, function_entry, function_greatest, greatest, size}
use Rattle.sidetable.specs.FlatModules.{AreFlat, AreWithin, IsFlat, operations_of}
use Rattle.sidetable.specs.Labels.{IsOpenLevel, OpenBody, all_entries, allows_else, open_bodies, targets_of}
use Rattle.sidetable.specs.Packing.{IsWithin, made}
use Rattle.sidetable.specs.Shapes.{Closes}
use Rattle.sidetable.specs.SideTables.{Continues, Grows, SideTables, entry_of_number}
use Rattle.sidetable.specs.declared.flat_module.FlatModule.{FlatModule}
use Rattle.sidetable.specs.declared.flat_module.PackedFunction.{PackedFunction}
use Rattle.sidetable.specs.declared.flattening.Flattening.{Flattening}
use Rattle.sidetable.specs.declared.labels.Level.{Level}
use Rattle.sidetable.specs.declared.operations.Entry.{Entry}
use Rattle.sidetable.specs.declared.operations.PackedOp.{PackedOp}

-- ---- what is left

module _ (s : Signatures) (outermost : Entry) where
  -- Behind the innermost body that is open, which ends at a place: its other body, if there is one, and what is left of each body
  -- around it.
  abbrev pub left_around : List OpenBody → Option Body → (at : ℕ) → List Part → List FlatOp
  left_around [] other at around = []
  left_around (b ∷ bs) None at around =
      flat s outermost (all_entries outermost bs) b.after at (first_part around).body
      ++ left_around bs (first_part around).other (at + size (first_part around).body)
      (other_parts around)
  left_around (b ∷ bs) (Some other) at around =
      Jump b.entry ∷
      (flat s outermost (b.entry ∷ all_entries outermost bs) b.inside (suc at) other
      ++ (flat s outermost (all_entries outermost bs) b.after (suc at + size other)
      (first_part around).body
      ++ left_around bs (first_part around).other
      (suc at + size other + size (first_part around).body) (other_parts around)))

  abbrev pub left : List OpenBody → (height : Option ℕ) → (at : ℕ) → Rests → List FlatOp
  left bodies h at r =
      flat s outermost (all_entries outermost bodies) h at r.here.body
      ++ left_around bodies r.here.other (at + size r.here.body) r.around

-- The greatest height of what is left.
abbrev pub greatest_around : Signatures → List OpenBody → Option Body → List Part → ℕ
greatest_around s [] other around = 0
greatest_around s (b ∷ bs) None around =
    max (greatest s b.after (first_part around).body)
    (greatest_around s bs (first_part around).other (other_parts around))
greatest_around s (b ∷ bs) (Some other) around =
    max (greatest s b.inside other) (max (greatest s b.after (first_part around).body)
    (greatest_around s bs (first_part around).other (other_parts around)))

abbrev pub greatest_left : Signatures → List OpenBody → (height : Option ℕ) → Rests → ℕ
greatest_left s bodies h r =
    max (greatest s h r.here.body) (greatest_around s bodies r.here.other r.around)

-- ---- targets that are left

module _ (outermost : ℕ) where
  -- The targets that the open bodies still get, the innermost of which ends at a place, and that of the function's label.
  abbrev pub targets_around : List Level → Option Body → (at : ℕ) → List Part → List (ℕ × ℕ)
  targets_around [] other at around = (outermost, at) ∷ []
  targets_around (l ∷ ls) None at around =
      targets_of l.pending l.label at at
      ++ targets_around ls (first_part around).other (at + size (first_part around).body)
      (other_parts around)
  targets_around (l ∷ ls) (Some other) at around =
      targets_of l.pending l.label (suc at) (suc at + size other)
      ++ targets_around ls (first_part around).other
      (suc at + size other + size (first_part around).body) (other_parts around)

  abbrev pub targets_left : List Level → (at : ℕ) → Rests → List (ℕ × ℕ)
  targets_left levels at r =
      targets_around levels r.here.other (at + size r.here.body) r.around

-- ---- results

-- A function began when the side tables were those before: its labels and its copies of labels are behind theirs.
pub record IsBegun (before : SideTables) (outermost : ℕ) (f : Flattening) : Type 0 where
  pub grows : Grows before f.tables
  pub copies : AreCopies (length before.entries.items) f.tables.entries.items
      (ranges_since before f.tables)
  pub outer : IsLabelSince before f.tables outermost
  pub levels : All (IsOpenLevel before f.tables) f.levels

-- A function began when the side tables were those before, and these operations are left of it.
pub record IsOpen (before : SideTables) (outermost : ℕ) (f : Flattening) (ops : List Op)
    : Type 0 where
  pub begun : IsBegun before outermost f
  pub shape : Closes ops (map allows_else f.levels)

-- If these operations are left, the side tables can end as these.
abbrev pub EndsAs : (before : SideTables) → ℕ → Flattening → List Op → SideTables → Type 0
EndsAs before outermost f ops final =
    Completes before f.tables
    (targets_left outermost f.levels (length f.operations.items) (rests ops)) final

-- With what was made, what is left of the operations makes this, in the final side tables.
pub record Makes (s : Signatures) (final : SideTables) (outermost : ℕ) (f : Flattening)
    (ops : List Op) (whole : List FlatOp) (most : ℕ)
    : Type 0 where
  pub operations : made final f.operations.items
      ++ left s (entry_of_number final outermost) (open_bodies final f.levels) f.heights.here
      (length f.operations.items) (rests ops)
      ≡ whole
  pub heights : max f.heights.greatest
      (greatest_left s (open_bodies final f.levels) f.heights.here (rests ops))
      ≡ most
  pub within : All (IsWithin final) f.operations.items

-- The first of all operations, up to these, are passed.
pub record PassesTo (s : Signatures) (outermost : ℕ) (old : Flattening) (all ops : List Op)
    (new : Flattening)
    : Type 0 where
  pub begun : (before : SideTables) → IsBegun before outermost old → IsBegun before outermost new
  pub shape : Closes all (map allows_else old.levels) → Closes ops (map allows_else new.levels)
  pub ends : (before final : SideTables) → IsOpen before outermost old all
      → EndsAs before outermost new ops final → EndsAs before outermost old all final
  pub makes : (before final : SideTables) (whole : List FlatOp) (most : ℕ)
      → IsOpen before outermost old all → EndsAs before outermost new ops final
      → Makes s final outermost old all whole most
      → Makes s final outermost new ops whole most

-- This operation is passed, whatever the others are.
abbrev pub Passes : Signatures → (outermost : ℕ) → Flattening → Op → Flattening → Type 0
Passes s outermost old op new = (ops : List Op) → PassesTo s outermost old (op ∷ ops) ops new

-- A function began before.
abbrev pub HasBegun : (outermost : ℕ) → Flattening → Type 0
HasBegun outermost f = (before : SideTables) × IsBegun before outermost f

-- An operation is appended, at this height.
pub record Pushes (old : Flattening) (p : PackedOp) (after : Option ℕ) (new : Flattening)
    : Type 0 where
  pub operations : new.operations.items ≡ old.operations.items ++ p ∷ []
  pub heights : GoesOnAt old.heights after new.heights
  pub tables : new.tables ≡ old.tables
  pub levels : new.levels ≡ old.levels

-- ---- functions

-- A function begins: the entry of its label was pushed, and no body is open.
pub record Starts (before : SideTables) (outermost : ℕ) (f : Flattening) (locals results : ℕ)
    : Type 0 where
  pub tables : ChangesEntries before f.tables
      (before.entries.items ++ entry_of 0 results locals ∷ [])
  pub outer : outermost ≡ length before.entries.items
  pub levels : f.levels ≡ []
  pub height : f.heights.here ≡ Some locals
  pub greatest : f.heights.greatest ≡ locals + results

-- The operations of a body were appended, and this is the greatest height in its function's frame.
pub record IsMade (s : Signatures) (before : List PackedOp) (tables : SideTables)
    (locals results : ℕ) (body : Body) (f : Flattening) (greatest : ℕ)
    : Type 0 where
  pub operations : made f.tables f.operations.items ≡ made tables before
      ++ flat s (function_entry locals results (length before) body)
      (function_entry locals results (length before) body ∷ []) (Some locals) (length before) body
  pub height : greatest ≡ function_greatest s locals results body
  pub within : All (IsWithin f.tables) f.operations.items

-- The functions so far, with the result for their operations.
abbrev pub module_of : Vec PackedFunction Global → Flattening → FlatModule
module_of functions f = record { functions = functions; operations = f.operations; tables = f.tables }

-- There is one more function.
pub record IsPushed (s : Signatures) (old : FlatModule) (f : Func) (new : FlatModule)
    : Type 0 where
  pub within : AreWithin new
  pub few : length new.operations.items < 2 ^ 32
  pub operations : Continues (operations_of old) (operations_of new)
  pub packed : PackedFunction
  pub functions : new.functions.items ≡ old.functions.items ++ packed ∷ []
  pub flat : IsFlat s (operations_of new) f packed

-- These are all of the functions.
pub record ArePushed (s : Signatures) (fs : List Func) (m : FlatModule) : Type 0 where
  pub within : AreWithin m
  pub few : length m.operations.items < 2 ^ 32
  pub functions : AreFlat s (operations_of m) fs m.functions.items
