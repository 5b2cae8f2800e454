-- Laws of the operands that entries are.
use denote.Ref.{Bor}
use Rattle.std.proofs.Common.{All, drop, ◌≡◌, ℕ, get_or, zero, suc, take, ◌+◌, ◌-◌, ◌<◌, ◌≤◌, ◌^◌, List, [], ◌∷◌, ◌++◌, length, refl, sym, subst, ap, ◌∙◌, append_assoc, arith, length-append}
use Rattle.std.proofs.lemmas.List.Elements.{All-append, All-head, All-nil, All-replicate, All-tail}
use Rattle.std.proofs.lemmas.List.{append-nil, length-map, length-take-le, map-append, take-append-drop, take_more}
use Rattle.core_types.specs.declared.types.OperandType.TheVariants.{Known, Unknown}
use Rattle.core_types.specs.declared.types.OperandType.{OperandType}
use Rattle.core_types.specs.declared.types.ValType.{ValType}
use Rattle.meaning.specs.validation.Instructions.{known}
use Rattle.validator.specs.declared.entries.Entry.{Entry}
use Rattle.validator.specs.declared.entries.Entry.TheVariants as entry
use Rattle.validator.specs.declared.entries.Entry.TheVariants.{Run}
use Rattle.validator.specs.OperandStack.{AreEntries, EndEach, EndIn, EndsWith, each_of, one, operands_in, runs_in, types_in, types_of}
use Rattle.validator.proofs.OperandStack.{split_last}

abbrev Some : List ValType → Type 0
Some run = 0 < length run

-- One more operand.
pub one_more : (es : List Entry) (rs : List (List ValType)) (t : OperandType) → operands_in (es ++ one t ∷ []) rs ≡ operands_in es rs ++ t ∷ []
one_more [] rs (Known u) = refl
one_more [] rs Unknown = refl
one_more (entry.Known u ∷ es) rs t = ap (λ (z : List OperandType). Known u ∷ z) (one_more es rs t)
one_more (entry.Unknown ∷ es) rs t = ap (λ (z : List OperandType). Unknown ∷ z) (one_more es rs t)
one_more (Run ∷ es) [] t = one_more es [] t
one_more (Run ∷ es) (r ∷ rs) t = ap (λ (z : List OperandType). known r ++ z) (one_more es rs t) ∙ sym (append_assoc (known r) (operands_in es rs) (t ∷ []))

pub runs_of_one : (es : List Entry) (t : OperandType) → runs_in (es ++ one t ∷ []) ≡ runs_in es
runs_of_one [] (Known u) = refl
runs_of_one [] Unknown = refl
runs_of_one (entry.Known u ∷ es) t = runs_of_one es t
runs_of_one (entry.Unknown ∷ es) t = runs_of_one es t
runs_of_one (Run ∷ es) t = ap (λ (n : ℕ). 1 + n) (runs_of_one es t)

pub runs_of_run : (es : List Entry) → runs_in (es ++ Run ∷ []) ≡ runs_in es + 1
runs_of_run [] = refl
runs_of_run (entry.Known u ∷ es) = runs_of_run es
runs_of_run (entry.Unknown ∷ es) = runs_of_run es
runs_of_run (Run ∷ es) = omega (arith, runs_of_run es)

-- One more run.
pub run_more : (es : List Entry) (rs : List (List ValType)) (r : List ValType) → runs_in es ≡ length rs
    → operands_in (es ++ Run ∷ []) (rs ++ r ∷ []) ≡ operands_in es rs ++ known r
run_more [] [] r e = append-nil (known r)
run_more [] (q ∷ rs) r e = absurd (omega (arith, e))
run_more (entry.Known u ∷ es) rs r e = ap (λ (z : List OperandType). Known u ∷ z) (run_more es rs r e)
run_more (entry.Unknown ∷ es) rs r e = ap (λ (z : List OperandType). Unknown ∷ z) (run_more es rs r e)
run_more (Run ∷ es) [] r e = absurd (omega (arith, e))
run_more (Run ∷ es) (q ∷ rs) r e =
    ap (λ (z : List OperandType). known q ++ z) (run_more es rs r (omega (arith, e))) ∙ sym (append_assoc (known q) (operands_in es rs) (known r))

pub types_more : (rs : List (List ValType)) (r : List ValType) → types_in (rs ++ r ∷ []) ≡ types_in rs + length r
types_more [] r = omega arith
types_more (q ∷ rs) r = omega (arith, types_more rs r)

-- How many operands there are.
pub operand_count : (es : List Entry) (rs : List (List ValType)) → runs_in es ≡ length rs → length (operands_in es rs) + length rs ≡ length es + types_in rs
operand_count [] [] e = refl
operand_count [] (r ∷ rs) e = absurd (omega (arith, e))
operand_count (entry.Known t ∷ es) rs e = omega (arith, operand_count es rs e)
operand_count (entry.Unknown ∷ es) rs e = omega (arith, operand_count es rs e)
operand_count (Run ∷ es) [] e = absurd (omega (arith, e))
operand_count (Run ∷ es) (r ∷ rs) e =
    omega (arith, length-append (known r) (operands_in es rs), length-map r Known, operand_count es rs (omega (arith, e)))

pub count_of : {es : List Entry} {rs : List (List ValType)} {more : ℕ} → AreEntries es rs more → length (operands_in es rs) ≡ length es + more
count_of {es} {rs} kept = omega (arith, operand_count es rs kept.each, kept.types)

-- The entries with one more operand.
pub entries_with_one : {es : List Entry} {rs : List (List ValType)} {more : ℕ} (t : OperandType) → AreEntries es rs more → AreEntries (es ++ one t ∷ []) rs more
entries_with_one {es} t kept = record { each = runs_of_one es t ∙ kept.each; some = kept.some; types = kept.types; few = kept.few }

-- The entries without the last operand.
pub entries_without_one : {es : List Entry} {rs : List (List ValType)} {more : ℕ} (t : OperandType) → AreEntries (es ++ one t ∷ []) rs more → AreEntries es rs more
entries_without_one {es} t kept = record { each = sym (runs_of_one es t) ∙ kept.each; some = kept.some; types = kept.types; few = kept.few }

-- The topmost entry is an operand of a type. It is removed.
module _ (es : List Entry) (rs : List (List ValType)) (t : ValType) (n : ℕ) {more : ℕ} (last : n + 1 ≡ length es) (top : entry.Known t ≡ get_or es n (entry.Known t))
    (kept : AreEntries es rs more) where
  pub entries_dropped : AreEntries (take n es) rs more
  entries_dropped = entries_without_one (Known t) (subst (λ (z : List Entry). AreEntries z rs more) (split_last es (entry.Known t) n last top) kept)

  pub operands_dropped : operands_in es rs ≡ operands_in (take n es) rs ++ Known t ∷ []
  operands_dropped = ap (λ (z : List Entry). operands_in z rs) (split_last es (entry.Known t) n last top) ∙ one_more (take n es) rs (Known t)

  pub height_dropped : (height : ℕ) → height < length es → height ≤ length (operands_in (take n es) rs)
  height_dropped height less = omega (arith, count_of entries_dropped, length-take-le n es (omega (arith, last)), last, less)

-- So are the two topmost ones.
module _ (es : List Entry) (rs : List (List ValType)) (under top : ValType) (n : ℕ) {more : ℕ} (last : n + 2 ≡ length es) (first : entry.Known top ≡ get_or es (n + 1) (entry.Known top))
    (second : entry.Known under ≡ get_or es n (entry.Known under)) (kept : AreEntries es rs more) where
  final : n + 1 + 1 ≡ length es
  final = omega (arith, last)

  parts : take (n + 1) es ≡ take n es ++ entry.Known under ∷ []
  parts = take_more es n (entry.Known under) (omega (arith, last)) ∙ ap (λ (x : Entry). take n es ++ x ∷ []) (sym second)

  pub entries_dropped_two : AreEntries (take n es) rs more
  entries_dropped_two = entries_without_one (Known under) (subst (λ (z : List Entry). AreEntries z rs more) parts (entries_dropped es rs top (n + 1) final first kept))

  pub operands_dropped_two : operands_in es rs ≡ operands_in (take n es) rs ++ Known under ∷ Known top ∷ []
  operands_dropped_two =
      operands_dropped es rs top (n + 1) final first kept
      ∙ ap (λ (z : List OperandType). z ++ Known top ∷ []) (ap (λ (z : List Entry). operands_in z rs) parts ∙ one_more (take n es) rs (Known under))
      ∙ append_assoc (operands_in (take n es) rs) (Known under ∷ []) (Known top ∷ [])

  pub height_dropped_two : (height : ℕ) → height ≤ n → height ≤ length (operands_in (take n es) rs)
  height_dropped_two height less = omega (arith, count_of entries_dropped_two, length-take-le n es (omega (arith, last)), less)

-- The entries with one more run.
pub entries_with_run : {es : List Entry} {rs : List (List ValType)} {more : ℕ} (r : List ValType) → 0 < length r → more + length r ≤ 2 ^ 62
    → AreEntries es rs more → AreEntries (es ++ Run ∷ []) (rs ++ r ∷ []) (more + (length r - 1))
entries_with_run {es} {rs} {more} r some few kept = record {
  each = omega (arith, runs_of_run es, kept.each, length-append rs (r ∷ []));
  some = All-append Some rs (r ∷ []) kept.some (All-replicate Some 1 r some);
  types = omega (arith, types_more rs r, kept.types, length-append rs (r ∷ []), some);
  few = omega (arith, few);
}

each_once : (rs : List (List ValType)) → All Some rs → length rs ≤ types_in rs
each_once [] some = omega arith
each_once (r ∷ rs) some = omega (arith, All-head Some r rs some, each_once rs (All-tail Some r rs some))

last_has : (q : List (List ValType)) (r : List ValType) → All Some (q ++ r ∷ []) → Some r
last_has [] r all = All-head Some r [] all
last_has (x ∷ q) r all = last_has q r (All-tail Some x (q ++ r ∷ []) all)

others_have : (q : List (List ValType)) (r : List ValType) → All Some (q ++ r ∷ []) → All Some q
others_have [] r all = All-nil Some
others_have (x ∷ q) r all = All-append Some (x ∷ []) q (All-replicate Some 1 x (All-head Some x (q ++ r ∷ []) all)) (others_have q r (All-tail Some x (q ++ r ∷ []) all))

-- The topmost entry is a run.
module _ (below : List Entry) (q : List (List ValType)) (r : List ValType) {more : ℕ} (kept : AreEntries (below ++ Run ∷ []) (q ++ r ∷ []) more) where
  each_below : runs_in below ≡ length q
  each_below = omega (arith, runs_of_run below, kept.each, length-append q (r ∷ []))

  pub some_on_top : 0 < length r
  some_on_top = last_has q r kept.some

  some_below : All Some q
  some_below = others_have q r kept.some

  types_below : types_in q + length r ≡ length q + 1 + more
  types_below = omega (arith, types_more q r, kept.types, length-append q (r ∷ []))

  pub top_within : length r ≤ more + 1
  top_within = omega (arith, types_below, each_once q some_below)

  pub without_run : AreEntries below q (more - (length r - 1))
  without_run = record {
    each = each_below;
    some = some_below;
    types = omega (arith, types_below, each_once q some_below, some_on_top);
    few = omega (arith, kept.few);
  }

  pub with_front : (front back : List ValType) → r ≡ front ++ back → 0 < length front → AreEntries (below ++ Run ∷ []) (q ++ front ∷ []) (more - length back)
  with_front front back parts some =
      let sizes = ap length parts ∙ length-append front back in
      record {
        each = omega (arith, kept.each, length-append q (r ∷ []), length-append q (front ∷ []));
        some = All-append Some q (front ∷ []) some_below (All-replicate Some 1 front some);
        types = omega (arith, types_more q front, types_below, sizes, length-append q (front ∷ []), each_once q some_below, some);
        few = omega (arith, kept.few);
      }

  pub operands_with_run : operands_in (below ++ Run ∷ []) (q ++ r ∷ []) ≡ operands_in below q ++ known r
  operands_with_run = run_more below q r each_below

  pub operands_with_front : (front back : List ValType) → r ≡ front ++ back
      → operands_in (below ++ Run ∷ []) (q ++ r ∷ []) ≡ operands_in (below ++ Run ∷ []) (q ++ front ∷ []) ++ known back
  operands_with_front front back parts =
      operands_with_run ∙ ap (λ (z : List ValType). operands_in below q ++ known z) parts ∙ ap (λ (z : List OperandType). operands_in below q ++ z) (map-append Known front back)
      ∙ sym (append_assoc (operands_in below q) (known front) (known back)) ∙ ap (λ (z : List OperandType). z ++ known back) (sym (run_more below q front each_below))

pub has_run : {es : List Entry} {rs : List (List ValType)} {more : ℕ} (below : List Entry) → AreEntries es rs more → es ≡ below ++ Run ∷ [] → 0 < length rs
has_run below kept parts = omega (arith, ap runs_in parts, runs_of_run below, kept.each)

-- The first entries, if none is a run.
runs_of_take : (n : ℕ) (es : List Entry) → runs_in es ≡ 0 → runs_in (take n es) ≡ 0
runs_of_take zero es none = refl
runs_of_take (suc n) [] none = refl
runs_of_take (suc n) (entry.Known t ∷ es) none = runs_of_take n es none
runs_of_take (suc n) (entry.Unknown ∷ es) none = runs_of_take n es none
runs_of_take (suc n) (Run ∷ es) none = absurd (omega (arith, none))

pub operands_of_take : (n : ℕ) (es : List Entry) → runs_in es ≡ 0 → operands_in (take n es) [] ≡ take n (operands_in es [])
operands_of_take zero es none = refl
operands_of_take (suc n) [] none = refl
operands_of_take (suc n) (entry.Known t ∷ es) none = ap (λ (z : List OperandType). Known t ∷ z) (operands_of_take n es none)
operands_of_take (suc n) (entry.Unknown ∷ es) none = ap (λ (z : List OperandType). Unknown ∷ z) (operands_of_take n es none)
operands_of_take (suc n) (Run ∷ es) none = absurd (omega (arith, none))

pub entries_of_take : {es : List Entry} {more : ℕ} (n : ℕ) → AreEntries es [] more → AreEntries (take n es) [] more
entries_of_take {es} n kept = record { each = runs_of_take n es kept.each; some = kept.some; types = kept.types; few = kept.few }

-- One more entry that is an operand of a type.
pub each-up : (es : List Entry) (types : List ValType) (i : ℕ) (d : Entry) (e : ValType) → i < length es → i < length types
    → take i es ≡ each_of (take i types) → get_or es i d ≡ entry.Known (get_or types i e) → take (i + 1) es ≡ each_of (take (i + 1) types)
each-up es types i d e less below before one =
    take_more es i d less ∙ ap (λ (z : List Entry). z ++ get_or es i d ∷ []) before ∙ ap (λ (x : Entry). each_of (take i types) ++ x ∷ []) one
    ∙ sym (ap each_of (take_more types i e below) ∙ map-append entry.Known (take i types) (get_or types i e ∷ []))

-- The last of such entries, and those before.
pub each-last : (es : List Entry) (types : List ValType) (i : ℕ) (d : Entry) (e : ValType) → i < length es → i < length types
    → take (i + 1) es ≡ each_of (take (i + 1) types) → (take i es ≡ each_of (take i types)) × (get_or es i d ≡ entry.Known (get_or types i e))
each-last [] types i d e less below same = absurd (omega (arith, less))
each-last (x ∷ es) [] i d e less below same = absurd (omega (arith, below))
each-last (x ∷ es) (t ∷ types) zero d e less below same = let one : x ≡ entry.Known t = cc in (refl, one)
each-last (x ∷ es) (t ∷ types) (suc i) d e less below same =
    let count : suc i + 1 ≡ suc (i + 1) = omega arith in
    let whole : x ∷ take (i + 1) es ≡ entry.Known t ∷ each_of (take (i + 1) types) = rw count at same in
    let one : x ≡ entry.Known t = cc in
    let others : take (i + 1) es ≡ each_of (take (i + 1) types) = cc in
    let (before, last) = each-last es types i d e (omega (arith, less)) (omega (arith, below)) others in
    (ap (λ (y : Entry). y ∷ take i es) one ∙ ap (λ (z : List Entry). entry.Known t ∷ z) before, last)

-- Entries that are operands of types are the operands.
pub each_more : (es : List Entry) (rs : List (List ValType)) (types : List ValType) → operands_in (es ++ each_of types) rs ≡ operands_in es rs ++ known types
each_more es rs [] = ap (λ (z : List Entry). operands_in z rs) (append-nil es) ∙ sym (append-nil (operands_in es rs))
each_more es rs (t ∷ types) =
    ap (λ (z : List Entry). operands_in z rs) (sym (append_assoc es (entry.Known t ∷ []) (each_of types))) ∙ each_more (es ++ entry.Known t ∷ []) rs types
    ∙ ap (λ (z : List OperandType). z ++ known types) (one_more es rs (Known t)) ∙ append_assoc (operands_in es rs) (Known t ∷ []) (known types)

-- The runs below the topmost one, and its types.
pub types_parts : (bs : List (Bor (List ValType))) (x : Bor (List ValType)) (n : ℕ) → n + 1 ≡ length bs → x ≡ get_or bs n x
    → types_of bs ≡ types_of (take n bs) ++ x.now ∷ []
types_parts bs x n last is = ap types_of (split_last bs x n last is) ∙ map-append (λ (run : Bor (List ValType)). run.now) (take n bs) (x ∷ [])

-- A run on top ends with these types where its types do.
pub ends_in_run : (es : List Entry) (bs : List (Bor (List ValType))) (x : Bor (List ValType)) (types : List ValType) (n m k : ℕ)
    → runs_in es ≡ length bs → n + 1 ≡ length es → Run ≡ get_or es n Run → m + 1 ≡ length bs → x ≡ get_or bs m x
    → drop k x.now ≡ types → EndIn (operands_in es (types_of bs)) types
ends_in_run es bs x types n m k each last top final is ends =
    let below = take n es in
    let q = types_of (take m bs) in
    let parts = split_last es Run n last top in
    let runs = types_parts bs x m final is in
    let count : runs_in below ≡ length q =
    omega (
      arith,
      runs_of_run below,
      ap runs_in parts,
      each,
      ap length runs,
      length-append q (x.now ∷ []),
      length-map bs (λ (run : Bor (List ValType)). run.now),
    ) in
    let halves : x.now ≡ take k x.now ++ types = sym (take-append-drop k x.now) ∙ ap (λ (z : List ValType). take k x.now ++ z) ends in (
      operands_in below q ++ known (take k x.now),
      ap (λ (z : List Entry). operands_in z (types_of bs)) parts ∙ ap (λ (z : List (List ValType)). operands_in (below ++ Run ∷ []) z) runs
          ∙ run_more below q x.now count ∙ ap (λ (z : List ValType). operands_in below q ++ known z) halves
          ∙ ap (λ (z : List OperandType). operands_in below q ++ z) (map-append Known (take k x.now) types)
          ∙ sym (append_assoc (operands_in below q) (known (take k x.now)) (known types)),
    )

-- Entries that end with operands of these types are operands that end with them.
pub ends_in_each : (es : List Entry) (rs : List (List ValType)) (types : List ValType) → EndEach es types → EndIn (operands_in es rs) types
ends_in_each es rs types (below, parts) = (operands_in below rs, ap (λ (z : List Entry). operands_in z rs) parts ∙ each_more below rs types)

-- Operands that end with these types do so above a height where there are enough.
pub ends_above : (operands : List OperandType) (types : List ValType) (height : ℕ) → EndIn operands types → height + length types ≤ length operands → EndsWith height operands types
ends_above operands types height (rest, parts) enough =
    (rest, parts, omega (arith, enough, ap length parts, length-append rest (known types), length-map types Known))
