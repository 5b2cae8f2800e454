-- Entries with copies in the ranges of branches.
use Rattle.std.proofs.Common.{◌≡◌, ℕ, ◌+◌, ◌-◌, ◌<◌, ◌≤◌, List, [], ◌∷◌, ◌++◌, length, map, take, drop, set, get_or, refl, ap, ap₂, sym, ◌∙◌, subst, add-zero}
use Rattle.std.proofs.Common.{arith, append_assoc, length-append, length-drop}
use Rattle.std.proofs.lemmas.List.{drop-append-le, drop-drop, drop_at, drop_more, get_or-drop, get_or-take, get_or_at, get_or_read, length-map, length-take-le}
use Rattle.std.proofs.lemmas.List.{map_more, set_at, take-append-drop, take-append-le, take-take}
use Rattle.std.proofs.lemmas.List.Elements.{All-cons, All-head, All-nil, All-tail, All-weaker}
use Rattle.std.specs.List.{All}
use Rattle.sidetable.specs.Completion.{AreInOrder, IsCopying, all_copied, copied, entry_in}
use Rattle.sidetable.specs.declared.operations.Entry.{Entry}
use Rattle.sidetable.specs.declared.side_tables.BranchRange.{BranchRange}

abbrev pub EndsWithin : ℕ → BranchRange → Type 0
EndsWithin n r = r.first + r.count ≤ n

abbrev pub BeginsAt : ℕ → BranchRange → Type 0
BeginsAt n r = n ≤ r.first

-- ---- one range

module _ (final es : List Entry) (r : BranchRange) (within : r.first + r.count ≤ length es) where
  abbrev copies : List Entry
  copies = map (λ (e : Entry). entry_in final e.target) (take r.count (drop r.first es))

  front-length : length (take r.first es) ≡ r.first
  front-length = length-take-le r.first es (omega (arith, within))

  copies-length : length copies ≡ r.count
  copies-length = length-map (take r.count (drop r.first es)) (λ (e : Entry). entry_in final e.target)
      ∙ length-take-le r.count (drop r.first es) (omega (arith, within, length-drop r.first es))

  pub length-copied : length (copied final es r) ≡ length es
  length-copied =
      omega (
        arith,
        within,
        front-length,
        copies-length,
        length-append (take r.first es) (copies ++ drop (r.first + r.count) es),
        length-append copies (drop (r.first + r.count) es),
        length-drop (r.first + r.count) es,
      )

  pub copied-append : (fs : List Entry) → copied final (es ++ fs) r ≡ copied final es r ++ fs
  copied-append fs =
      let middle : take r.count (drop r.first (es ++ fs)) ≡ take r.count (drop r.first es) = ap (take r.count) (drop-append-le r.first es fs (omega (arith, within)))
      ∙ take-append-le r.count (drop r.first es) fs (omega (arith, within, length-drop r.first es)) in
      ap (λ (xs : List Entry). xs ++ (map (λ (e : Entry). entry_in final e.target) (take r.count (drop r.first (es ++ fs))) ++ drop (r.first + r.count) (es ++ fs)))
      (take-append-le r.first es fs (omega (arith, within)))
      ∙ ap₂ (λ (xs ys : List Entry). take r.first es ++ (map (λ (e : Entry). entry_in final e.target) xs ++ ys)) middle (drop-append-le (r.first + r.count) es fs within)
      ∙ ap (λ (xs : List Entry). take r.first es ++ xs) (sym (append_assoc copies (drop (r.first + r.count) es) fs))
      ∙ sym (append_assoc (take r.first es) (copies ++ drop (r.first + r.count) es) fs)

  pub below-copied : (n : ℕ) → n ≤ r.first → take n (copied final es r) ≡ take n es
  below-copied n below = take-append-le n (take r.first es) (copies ++ drop (r.first + r.count) es) (omega (arith, below, front-length)) ∙ take-take n r.first es below

  pub behind-copied : (n : ℕ) → r.first + r.count ≤ n → drop n (copied final es r) ≡ drop n es
  behind-copied n behind =
      let more : r.first + r.count + (n - (r.first + r.count)) ≡ n = omega (arith, behind) in
      let size : length (take r.first es ++ copies) ≡ r.first + r.count = length-append (take r.first es) copies ∙ ap₂ (λ (i j : ℕ). i + j) front-length copies-length in
      let here : drop (r.first + r.count) (copied final es r) ≡ drop (r.first + r.count) es = ap (drop (r.first + r.count))
      (sym (append_assoc (take r.first es) copies (drop (r.first + r.count) es))) ∙ drop_at (take r.first es ++ copies) (drop (r.first + r.count) es) (r.first + r.count) size in
      ap (λ (k : ℕ). drop k (copied final es r)) (sym more) ∙ sym (drop-drop (n - (r.first + r.count)) (r.first + r.count) (copied final es r)) ∙ ap (drop (n - (r.first + r.count))) here
      ∙ drop-drop (n - (r.first + r.count)) (r.first + r.count) es ∙ ap (λ (k : ℕ). drop k es) more

-- ---- all ranges

pub length-all_copied : (final : List Entry) (rs : List BranchRange) (es : List Entry) → All (EndsWithin (length es)) rs → length (all_copied final rs es) ≡ length es
length-all_copied final [] es within = refl
length-all_copied final (r ∷ rs) es within =
    let size = length-copied final es r (All-head (EndsWithin (length es)) r rs within) in
    length-all_copied final rs (copied final es r) (subst (λ (n : ℕ). All (EndsWithin n) rs) (sym size) (All-tail (EndsWithin (length es)) r rs within)) ∙ size

pub all_copied-append : (final : List Entry) (rs : List BranchRange) (es fs : List Entry) → All (EndsWithin (length es)) rs → all_copied final rs (es ++ fs) ≡ all_copied final rs es ++ fs
all_copied-append final [] es fs within = refl
all_copied-append final (r ∷ rs) es fs within =
    let here = All-head (EndsWithin (length es)) r rs within in
    ap (all_copied final rs) (copied-append final es r here fs)
    ∙ all_copied-append final rs (copied final es r) fs (subst (λ (n : ℕ). All (EndsWithin n) rs) (sym (length-copied final es r here)) (All-tail (EndsWithin (length es)) r rs within))

pub all_copied-more : (final : List Entry) (rs ss : List BranchRange) (es : List Entry) → all_copied final (rs ++ ss) es ≡ all_copied final ss (all_copied final rs es)
all_copied-more final [] ss es = refl
all_copied-more final (r ∷ rs) ss es = all_copied-more final rs ss (copied final es r)

pub below-all_copied : (final : List Entry) (rs : List BranchRange) (es : List Entry) (n : ℕ) → All (BeginsAt n) rs → All (EndsWithin (length es)) rs
    → take n (all_copied final rs es) ≡ take n es
below-all_copied final [] es n begin within = refl
below-all_copied final (r ∷ rs) es n begin within =
    let here = All-head (EndsWithin (length es)) r rs within in
    below-all_copied final rs (copied final es r) n (All-tail (BeginsAt n) r rs begin)
    (subst (λ (k : ℕ). All (EndsWithin k) rs) (sym (length-copied final es r here)) (All-tail (EndsWithin (length es)) r rs within))
    ∙ below-copied final es r here n (All-head (BeginsAt n) r rs begin)

-- ---- ranges in order

pub begin-in-order : (from n : ℕ) (rs : List BranchRange) → n ≤ from → AreInOrder from rs → All (BeginsAt n) rs
begin-in-order from n [] below h = All-nil (BeginsAt n)
begin-in-order from n (r ∷ rs) below h = All-cons (BeginsAt n) r rs (omega (arith, below, h.0)) (begin-in-order (r.first + r.count) n rs (omega (arith, below, h.0)) h.1)

pub in-order-later : (from n : ℕ) (rs : List BranchRange) → n ≤ from → AreInOrder from rs → AreInOrder n rs
in-order-later from n [] below h = tt {0}
in-order-later from n (r ∷ rs) below h = (omega (arith, below, h.0), h.1)

pub in-order-more : (from n : ℕ) (rs ss : List BranchRange) → from ≤ n → AreInOrder from rs → All (EndsWithin n) rs → AreInOrder n ss → AreInOrder from (rs ++ ss)
in-order-more from n [] ss below h within more = in-order-later n from ss below more
in-order-more from n (r ∷ rs) ss below h within more =
    (h.0, in-order-more (r.first + r.count) n rs ss (All-head (EndsWithin n) r rs within) h.1 (All-tail (EndsWithin n) r rs within) more)

pub all-end-within : (es : List Entry) (rs : List BranchRange) → All (IsCopying es) rs → All (EndsWithin (length es)) rs
all-end-within es rs copying = All-weaker (IsCopying es) (EndsWithin (length es)) (λ r c. c.within) rs copying

-- ---- ranges that are copied in turn

-- Each with the entries as they are then.
abbrev pub copied_in_turn : List BranchRange → List Entry → List Entry
copied_in_turn [] es = es
copied_in_turn (r ∷ rs) es = copied_in_turn rs (copied es es r)

-- What is behind a range stays a range of copies.
pub copying-behind : (es : List Entry) (r : BranchRange) (rs : List BranchRange) → r.first + r.count ≤ length es → AreInOrder (r.first + r.count) rs → All (IsCopying es) rs
    → All (IsCopying (copied es es r)) rs
copying-behind es r rs within h copying = λ k d lt.
    let c = copying k d lt in
    let begins : r.first + r.count ≤ (get_or rs k d).first = begin-in-order (r.first + r.count) (r.first + r.count) rs (omega arith) h k d lt in
    record {
      within = omega (arith, c.within, length-copied es es r within);
      before = subst (λ (xs : List Entry). All (λ (e : Entry). e.target < (get_or rs k d).first) (take (get_or rs k d).count xs))
          (sym (behind-copied es es r within (get_or rs k d).first begins)) c.before;
    }

below-in-turn : (from n : ℕ) (rs : List BranchRange) (es : List Entry) → n ≤ from → AreInOrder from rs → All (IsCopying es) rs → take n (copied_in_turn rs es) ≡ take n es
below-in-turn from n [] es below h copying = refl
below-in-turn from n (r ∷ rs) es below h copying =
    let c = All-head (IsCopying es) r rs copying in
    below-in-turn (r.first + r.count) n rs (copied es es r) (omega (arith, below, h.0)) h.1 (copying-behind es r rs c.within h.1 (All-tail (IsCopying es) r rs copying))
    ∙ below-copied es es r c.within n (omega (arith, below, h.0))

same-copies : (first second es : List Entry) (n : ℕ) → take n first ≡ take n second → All (λ (e : Entry). e.target < n) es
    → map (λ (e : Entry). entry_in first e.target) es ≡ map (λ (e : Entry). entry_in second e.target) es
same-copies first second [] n same below = refl
same-copies first second (e ∷ es) n same below =
    let inside : e.target < n = All-head (λ (x : Entry). x.target < n) e es below in
    let d : Entry = record { target = 0; kept = 0; height = 0 } in
    ap₂ (λ (x : Entry) (xs : List Entry). x ∷ xs)
    (sym (get_or-take n first e.target d inside) ∙ ap (λ (xs : List Entry). get_or xs e.target d) same ∙ get_or-take n second e.target d inside)
    (same-copies first second es n same (All-tail (λ (x : Entry). x.target < n) e es below))

-- In turn is the same as with the entries in the end.
pub in-turn-is : (from : ℕ) (rs : List BranchRange) (es : List Entry) → AreInOrder from rs → All (IsCopying es) rs → copied_in_turn rs es ≡ all_copied (copied_in_turn rs es) rs es
in-turn-is from [] es h copying = refl
in-turn-is from (r ∷ rs) es h copying =
    let c = All-head (IsCopying es) r rs copying in
    let later = copying-behind es r rs c.within h.1 (All-tail (IsCopying es) r rs copying) in
    let final : List Entry = copied_in_turn rs (copied es es r) in
    let below : take r.first final ≡ take r.first es = below-in-turn (r.first + r.count) r.first rs (copied es es r) (omega arith) h.1 later
    ∙ below-copied es es r c.within r.first (omega arith) in
    in-turn-is (r.first + r.count) rs (copied es es r) h.1 later
    ∙ ap (λ (xs : List Entry). all_copied final rs (take r.first es ++ (xs ++ drop (r.first + r.count) es))) (sym (same-copies final es (take r.count (drop r.first es)) r.first below c.before))

-- ---- the copies of one range, so far

-- A range that begins so and has so many entries.
abbrev pub range_of : BranchRange → (count : ℕ) → BranchRange
range_of r count = record { first = r.first; count = count; default = r.default }

-- One copy more.
module _ (es : List Entry) (r : BranchRange) (count : ℕ) (inside : r.first + count < length es) where
  abbrev no_entry : Entry
  no_entry = record { target = 0; kept = 0; height = 0 }

  abbrev front : List Entry
  front = take r.first es ++ map (λ (e : Entry). entry_in es e.target) (take count (drop r.first es))

  abbrev next : Entry
  next = entry_in es (r.first + count)

  front-size : length front ≡ r.first + count
  front-size =
      length-append (take r.first es) (copies es es (range_of r count) (omega (arith, inside)))
      ∙ ap₂ (λ (i j : ℕ). i + j) (front-length es es (range_of r count) (omega (arith, inside))) (copies-length es es (range_of r count) (omega (arith, inside)))

  split : copied es es (range_of r count) ≡ front ++ (next ∷ drop (r.first + count + 1) es)
  split = sym (append_assoc (take r.first es) (copies es es (range_of r count) (omega (arith, inside))) (drop (r.first + count) es))
      ∙ ap (λ (xs : List Entry). front ++ xs) (drop_more es (r.first + count) no_entry inside)

  pub next-entry : entry_in (copied es es (range_of r count)) (r.first + count) ≡ next
  next-entry = ap (λ (xs : List Entry). entry_in xs (r.first + count)) split ∙ get_or_at front next (drop (r.first + count + 1) es) no_entry (r.first + count) front-size

  pub label-entry : (n : ℕ) → n < r.first → entry_in (copied es es (range_of r count)) n ≡ entry_in es n
  label-entry n below =
      sym (get_or-take r.first (copied es es (range_of r count)) n no_entry below)
      ∙ ap (λ (xs : List Entry). entry_in xs n) (below-copied es es (range_of r count) (omega (arith, inside)) r.first (omega arith)) ∙ get_or-take r.first es n no_entry below

  pub copied-next : set (copied es es (range_of r count)) (r.first + count) (entry_in es next.target) ≡ copied es es (range_of r (count + 1))
  copied-next =
      ap (λ (xs : List Entry). set xs (r.first + count) (entry_in es next.target)) split
      ∙ set_at front next (drop (r.first + count + 1) es) (entry_in es next.target) (r.first + count) front-size
      ∙ append_assoc (take r.first es) (map (λ (e : Entry). entry_in es e.target) (take count (drop r.first es))) (entry_in es next.target ∷ drop (r.first + count + 1) es)
      ∙ ap (λ (xs : List Entry). take r.first es ++ xs)
      (sym (append_assoc (map (λ (e : Entry). entry_in es e.target) (take count (drop r.first es))) (entry_in es next.target ∷ []) (drop (r.first + count + 1) es))
      ∙ ap₂ (λ (xs : List Entry) (n : ℕ). xs ++ drop n es) more (omega arith))
    where
      same-next : entry_in (drop r.first es) count ≡ next
      same-next = get_or-drop r.first es count no_entry

      more : map (λ (e : Entry). entry_in es e.target) (take count (drop r.first es)) ++ (entry_in es next.target ∷ []) ≡ map (λ (e : Entry). entry_in es e.target) (take (count + 1) (drop r.first es))
      more =
          ap (λ (e : Entry). map (λ (x : Entry). entry_in es x.target) (take count (drop r.first es)) ++ (entry_in es e.target ∷ [])) (sym same-next)
          ∙ sym (map_more (λ (e : Entry). entry_in es e.target) (drop r.first es) count no_entry (omega (arith, inside, length-drop r.first es)))

-- What is read and written at an index of a range, where the entries before it are copied.
module _ (es now : List Entry) (r : BranchRange) (index : ℕ) (is : now ≡ copied es es (range_of r (index - r.first))) (from : r.first ≤ index) (below : index < r.first + r.count)
    (copying : IsCopying es r) where
  place : r.first + (index - r.first) ≡ index
  place = omega (arith, from)

  inside : r.first + (index - r.first) < length es
  inside = omega (arith, from, below, copying.within)

  read-is : (e : Entry) → e ≡ get_or now index e → e ≡ entry_in es (r.first + (index - r.first))
  read-is e read =
      get_or_read now index e (omega (arith, ap length is, length-copied es es (range_of r (index - r.first)) (omega (arith, inside)), inside, place)) read
      (record { target = 0; kept = 0; height = 0 })
      ∙ ap (λ (n : ℕ). entry_in now n) (sym place) ∙ ap (λ (xs : List Entry). entry_in xs (r.first + (index - r.first))) is ∙ next-entry es r (index - r.first) inside

  pub target-before : (e : Entry) → e ≡ get_or now index e → e.target < r.first
  target-before e read =
      let d : Entry = record { target = 0; kept = 0; height = 0 } in
      let k : ℕ = index - r.first in
      let there : get_or (take r.count (drop r.first es)) k d ≡ entry_in es (r.first + k) = get_or-take r.count (drop r.first es) k d (omega (arith, from, below))
      ∙ get_or-drop r.first es k d in
      let target : (get_or (take r.count (drop r.first es)) k d).target < r.first = copying.before k d
      (omega (arith, from, below, length-take-le r.count (drop r.first es) (omega (arith, copying.within, length-drop r.first es)))) in
      subst (λ (x : Entry). x.target < r.first) (there ∙ sym (read-is e read)) target

  pub written-is : (e x : Entry) → e ≡ get_or now index e → x ≡ get_or now e.target x → set now index x ≡ copied es es (range_of r (index + 1 - r.first))
  written-is e x read copy =
      let before = target-before e read in
      let value : x ≡ entry_in es (entry_in es (r.first + (index - r.first))).target =
      get_or_read now e.target x (omega (arith, before, from, ap length is, length-copied es es (range_of r (index - r.first)) (omega (arith, inside)), inside)) copy
      (record { target = 0; kept = 0; height = 0 })
      ∙ ap (λ (xs : List Entry). entry_in xs e.target) is ∙ label-entry es r (index - r.first) inside e.target before ∙ ap (λ (y : Entry). entry_in es y.target) (read-is e read) in
      ap₂ (λ (xs : List Entry) (n : ℕ). set xs n x) is (sym place) ∙ ap (set (copied es es (range_of r (index - r.first))) (r.first + (index - r.first))) value
      ∙ copied-next es r (index - r.first) inside
      ∙ ap (λ (n : ℕ). copied es es (range_of r n)) (omega (arith, from))

-- A range of no entries changes nothing.
pub none-copied : (es : List Entry) (r : BranchRange) → copied es es (range_of r 0) ≡ es
none-copied es r = ap (λ (n : ℕ). take r.first es ++ drop n es) (add-zero r.first) ∙ take-append-drop r.first es
