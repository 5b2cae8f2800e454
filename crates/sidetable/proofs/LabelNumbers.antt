-- Labels by index, and the numbers of their entries.
use Rattle.std.proofs.Common.{◌≡◌, ℕ, zero, suc, ◌+◌, ◌<◌, ◌≤◌, List, [], ◌∷◌, ◌++◌, length, map, take, drop, get_or, refl, ap, ap₂, sym, ◌∙◌, arith, append_assoc, length-append}
use Rattle.std.proofs.lemmas.List.{append-nil, drop_all, drop_at, length-map, map-append, take_all, take_at, take_more}
use Rattle.std.proofs.lemmas.List.Elements.{All-head, All-map, All-tail}
use Rattle.std.specs.List.{All}
use Rattle.sidetable.specs.Completion.{all_copied, copied, copy_of, entry_in}
use Rattle.sidetable.specs.Flat.{entry_at}
use Rattle.sidetable.specs.Labels.{HaveEntries, label_entries, number_at}
use Rattle.sidetable.specs.SideTables.{Continues, SideTables, entry_of_number}
use Rattle.sidetable.specs.declared.labels.Level.{Level}
use Rattle.sidetable.specs.declared.operations.Entry.{Entry}
use Rattle.sidetable.specs.declared.side_tables.BranchRange.{BranchRange}

pub entry-at-number : (t : SideTables) (outermost : ℕ) (levels : List Level) (index : ℕ)
    → entry_of_number t (number_at outermost levels index) ≡ entry_at (entry_of_number t outermost) (label_entries t outermost levels) index
entry-at-number t outermost [] zero = refl
entry-at-number t outermost [] (suc index) = refl
entry-at-number t outermost (l ∷ levels) zero = refl
entry-at-number t outermost (l ∷ levels) (suc index) = entry-at-number t outermost levels index

pub entries-at-numbers : (t : SideTables) (outermost : ℕ) (levels : List Level) (indices : List ℕ)
    → map (λ (e : Entry). entry_of_number t e.target) (map (λ (index : ℕ). copy_of (number_at outermost levels index)) indices) ≡ map
    (entry_at (entry_of_number t outermost) (label_entries t outermost levels)) indices
entries-at-numbers t outermost levels [] = refl
entries-at-numbers t outermost levels (index ∷ indices) = ap₂ (λ (e : Entry) (es : List Entry). e ∷ es) (entry-at-number t outermost levels index) (entries-at-numbers t outermost levels indices)

number-below : (n outermost : ℕ) (levels : List Level) (index : ℕ) → outermost < n → All (λ (l : Level). l.label < n) levels → number_at outermost levels index < n
number-below n outermost [] index outer inner = outer
number-below n outermost (l ∷ levels) zero outer inner = All-head (λ (m : Level). m.label < n) l levels inner
number-below n outermost (l ∷ levels) (suc index) outer inner = number-below n outermost levels index outer (All-tail (λ (m : Level). m.label < n) l levels inner)

pub number-within : (t : SideTables) (outermost : ℕ) (levels : List Level) (index : ℕ) → HaveEntries t outermost levels → number_at outermost levels index < length t.entries.items
number-within t outermost levels index have = number-below (length t.entries.items) outermost levels index have.outer have.inner

pub label-there : (t final : SideTables) (outermost : ℕ) (levels : List Level) (index number : ℕ) → length t.entries.items ≤ length final.entries.items → HaveEntries t outermost levels
    → number ≡ number_at outermost levels index → number < length final.entries.items
label-there t final outermost levels index number more have is = omega (arith, more, is, number-within t outermost levels index have)

-- Each of these copies has the number of a label.
pub copies-before : (t : SideTables) (outermost : ℕ) (levels : List Level) (indices : List ℕ) → HaveEntries t outermost levels
    → All (λ (e : Entry). e.target < length t.entries.items) (map (λ (index : ℕ). copy_of (number_at outermost levels index)) indices)
copies-before t outermost levels indices have = All-map (λ (e : Entry). e.target < length t.entries.items) (λ (index : ℕ). copy_of (number_at outermost levels index)) indices
    (λ k d lt. number-within t outermost levels (get_or indices k d) have)

-- ---- entries after others

pub one-pushed : (f : ℕ → Entry) (start now next : List Entry) (indices : List ℕ) (index : ℕ) → index < length indices → now ≡ start ++ map f (take index indices)
    → next ≡ now ++ (f (get_or indices index 0) ∷ [])
    → next ≡ start ++ map f (take (index + 1) indices)
one-pushed f start now next indices index inside before pushed =
    pushed ∙ ap (λ (es : List Entry). es ++ (f (get_or indices index 0) ∷ [])) before
    ∙ append_assoc start (map f (take index indices)) (f (get_or indices index 0) ∷ [])
    ∙ ap (λ (es : List Entry). start ++ es) (sym (map-append f (take index indices) (get_or indices index 0 ∷ [])) ∙ ap (map f) (sym (take_more indices index 0 inside)))

-- What is in a range in the end.
module _ (final front copies : List Entry) (r : BranchRange) (first : length front ≡ r.first) (count : length copies ≡ r.count) where
  abbrev aimed : List Entry
  aimed = map (λ (e : Entry). entry_in final e.target) copies

  middle : take r.count (drop r.first (front ++ copies)) ≡ copies
  middle = ap (take r.count) (drop_at front copies r.first first) ∙ take_all r.count copies (omega (arith, count))

  here : copied final (front ++ copies) r ≡ front ++ aimed
  here =
      ap₂ (λ (xs ys : List Entry). xs ++ (map (λ (e : Entry). entry_in final e.target) ys ++ drop (r.first + r.count) (front ++ copies))) (take_at front copies r.first first) middle
      ∙ ap (λ (xs : List Entry). front ++ (aimed ++ xs)) (drop_all (r.first + r.count) (front ++ copies) (omega (arith, first, count, length-append front copies)))
      ∙ ap (λ (xs : List Entry). front ++ xs) (append-nil aimed)

  pub range-in-the-end : Continues (all_copied final (r ∷ []) (front ++ copies)) final → take r.count (drop r.first final) ≡ aimed
  range-in-the-end (more, is) =
      ap (λ (es : List Entry). take r.count (drop r.first es)) (is ∙ ap (λ (es : List Entry). es ++ more) here ∙ append_assoc front aimed more)
      ∙ ap (take r.count) (drop_at front (aimed ++ more) r.first first)
      ∙ take_at aimed more r.count (length-map copies (λ (e : Entry). entry_in final e.target) ∙ count)
