-- Labels, known by the numbers of their entries, and open bodies.
use Rattle.std.specs.Prelude.{ℕ, ◌<◌, Bool, true, false, List, [], ◌∷◌, ◌++◌, Option, length, map, slice_get, unwrap_or}
use Rattle.std.specs.List.{All}
use Rattle.sidetable.specs.Completion.{IsLabelSince}
use Rattle.sidetable.specs.SideTables.{SideTables, entry_of_number}
use Rattle.sidetable.specs.declared.labels.Level.{Level}
use Rattle.sidetable.specs.declared.labels.Pending.{Pending}
use Rattle.sidetable.specs.declared.labels.Pending.TheVariants.{Nothing, End, SecondAndEnd}
use Rattle.sidetable.specs.declared.operations.Entry.{Entry}

-- ---- numbers

-- The number of the entry of a label, by its index from the inside out.
abbrev pub number_at : (outermost : ℕ) → List Level → (index : ℕ) → ℕ
number_at outermost levels index =
    unwrap_or (slice_get (map (λ (l : Level). l.label) levels) index) outermost

-- The number of each label is that of an entry.
pub record HaveEntries (t : SideTables) (outermost : ℕ) (levels : List Level) : Type 0 where
  pub outer : outermost < length t.entries.items
  pub inner : All (λ (l : Level). l.label < length t.entries.items) levels

-- ---- entries without a target

-- The targets that an open body still gets if its second part begins at one place, and it ends at another.
abbrev pub targets_of : Pending → (label second end : ℕ) → List (ℕ × ℕ)
targets_of Nothing label second end = []
targets_of End label second end = (label, end) ∷ []
targets_of (SecondAndEnd number) label second end = (number, second) ∷ (label, end) ∷ []

-- The target of its second part, if that is to come.
abbrev pub second_targets : Pending → (place : ℕ) → List (ℕ × ℕ)
second_targets Nothing place = []
second_targets End place = []
second_targets (SecondAndEnd number) place = (number, place) ∷ []

-- Whether a second part is to come.
abbrev pub has_second : Pending → Bool
has_second Nothing = false
has_second End = false
has_second (SecondAndEnd number) = true

-- This holds of the number of the second part's entry, if that part is to come.
abbrev pub IfSecond : (ℕ → Type 0) → Pending → Type 0
IfSecond P Nothing = Unit {0}
IfSecond P End = Unit {0}
IfSecond P (SecondAndEnd number) = P number

-- Whether an else may follow.
abbrev pub allows_else : Level → Bool
allows_else l = has_second l.pending

-- The level of a body that began since the side tables were others.
abbrev pub IsOpenLevel : (before now : SideTables) → Level → Type 0
IsOpenLevel before now l =
    IsLabelSince before now l.label × IfSecond (IsLabelSince before now) l.pending

-- ---- open bodies

-- A body that is open: the entry of its label, the height inside of it at first, and the height after it.
pub record OpenBody : Type 0 where
  pub entry : Entry
  pub inside : Option ℕ
  pub after : Option ℕ

abbrev pub open_body : SideTables → Level → OpenBody
open_body t l =
    record { entry = entry_of_number t l.label; inside = l.inside; after = l.after }

abbrev pub open_bodies : SideTables → List Level → List OpenBody
open_bodies t levels = map (open_body t) levels

-- The entries of all labels, from the inside out, of which the outermost is the function's.
abbrev pub all_entries : Entry → List OpenBody → List Entry
all_entries outermost bodies = map (λ (b : OpenBody). b.entry) bodies ++ outermost ∷ []

-- The same for levels.
abbrev pub label_entries : SideTables → (outermost : ℕ) → List Level → List Entry
label_entries t outermost levels =
    all_entries (entry_of_number t outermost) (open_bodies t levels)
