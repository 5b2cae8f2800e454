-- Laws of what is taken from a frame's operands.
use Rattle.std.proofs.Common.{◌≡◌, ℕ, zero, suc, ◌+◌, ◌<◌, ◌≤◌, set, Bool, true, List, [], ◌∷◌, ◌++◌, length, length-append, take, drop, reverse, get_or, replicate, refl, sym, ap, ◌∙◌, inl, inr, append_assoc, arith}
use Rattle.std.proofs.lemmas.List.{append-nil, drop_more, length-set, length-take-le, map-append, nil_from_length, replicate-append-replicate, reverse-append, take-append-drop, take_all, take_more, take_more_set}
use Rattle.std.specs.Prelude.{Option, Some, None, IfNone, IfSome, option_to_list}
use Rattle.core_types.specs.declared.types.OperandType.TheVariants.{Known, Unknown}
use Rattle.core_types.specs.declared.types.OperandType.{OperandType}
use Rattle.core_types.specs.declared.types.ValType.{ValType}
use Rattle.meaning.proofs.lemmas.Typing.{AllFit-joined}
use Rattle.meaning.specs.validation.Instructions.{AllFit, Fits, known}
use Rattle.validator.specs.Operands.{TakenFrom, Takes}

nil_parts : (xs ys : List OperandType) → [] ≡ xs ++ ys → (xs ≡ []) × (ys ≡ [])
nil_parts [] ys e = (refl, sym e)
nil_parts (x ∷ xs) ys e = absurd cc

-- The last of two lists that are joined is the last of the second one, if it has one.
last_of : (under own new : List OperandType) (t : OperandType) → new ++ t ∷ [] ≡ under ++ own → length under < length (new ++ t ∷ [])
    → (rest : List OperandType) × (new ≡ under ++ rest) × (own ≡ rest ++ t ∷ [])
last_of [] own new t e less = (new, refl, sym e)
last_of (u ∷ under) own [] t e less = absurd (omega arith)
last_of (u ∷ under) own (n ∷ new) t e less =
    let tails : new ++ t ∷ [] ≡ under ++ own = cc in
    let same : n ≡ u = cc in
    let (rest, parts, last) = last_of under own new t tails (omega arith) in
    (rest, ap (λ (x : OperandType). x ∷ new) same ∙ ap (λ (z : List OperandType). u ∷ z) parts, last)

-- The topmost operand is popped.
pub Takes-top : (unreachable : Bool) (height : ℕ) (old new : List OperandType) (t : OperandType) → old ≡ new ++ t ∷ [] → height < length old → Takes unreachable height old (t ∷ []) new
Takes-top unreachable height old new t e high = record {
  at = λ under own parts long.
      let (rest, left, taken) = last_of under own new t (sym e ∙ parts) (omega (arith, ap length e)) in
      (rest, left, inl taken);
}

-- A list is the part before its last element, and that element.
pub split_last : {A : Type 0} (xs : List A) (x : A) (n : ℕ) → n + 1 ≡ length xs → x ≡ get_or xs n x → xs ≡ take n xs ++ x ∷ []
split_last xs x n last is =
    let whole = sym (take_all (n + 1) xs (omega (arith, last))) in
    whole ∙ take_more xs n x (omega (arith, last)) ∙ ap (λ y. take n xs ++ y ∷ []) (sym is)

-- The topmost operand is replaced.
pub set_last : {A : Type 0} (xs : List A) (y : A) (n : ℕ) → n + 1 ≡ length xs → set xs n y ≡ take n xs ++ y ∷ []
set_last xs y n last =
    let whole = sym (take_all (n + 1) (set xs n y) (omega (arith, last, length-set xs n y))) in
    whole ∙ take_more_set xs n y (omega (arith, last))

pub Takes-nothing : (unreachable : Bool) (height : ℕ) (old : List OperandType) → Takes unreachable height old [] old
Takes-nothing unreachable height old = record { at = λ under own parts long. (own, parts, inl (sym (append-nil own))) }

-- More operands are taken, from below those that were taken.
TakenFrom-under : (unreachable : Bool) (own given rest new more : List OperandType) → TakenFrom unreachable own given rest
    → TakenFrom unreachable rest more new → TakenFrom unreachable own (more ++ given) new
TakenFrom-under unreachable own given rest new more (inl parts) (inl last) = inl (parts ∙ ap (λ (z : List OperandType). z ++ given) last ∙ append_assoc new more given)
TakenFrom-under unreachable own given rest new more (inl parts) (inr (dead, nothing, (n, last))) =
    inr (dead, nothing, (n, ap (λ (z : List OperandType). z ++ given) last ∙ append_assoc (replicate n Unknown) rest given ∙ ap (λ (z : List OperandType). replicate n Unknown ++ z) (sym parts)))
TakenFrom-under unreachable own given rest new more (inr (dead, nothing, (n, parts))) (inl last) =
    let both = nil_parts new more (sym nothing ∙ last) in
    inr (dead, both.0, (n, ap (λ (z : List OperandType). z ++ given) both.1 ∙ parts))
TakenFrom-under unreachable own given rest new more (inr (dead, nothing, (n, parts))) (inr (again, left, (k, last))) =
    let some : more ≡ replicate k Unknown = last ∙ ap (λ (z : List OperandType). replicate k Unknown ++ z) nothing ∙ append-nil (replicate k Unknown) in
    inr (
      dead,
      left,
      (
        k + n,
        ap (λ (z : List OperandType). z ++ given) some ∙ ap (λ (z : List OperandType). replicate k Unknown ++ z) parts ∙ sym
            (append_assoc (replicate k Unknown) (replicate n Unknown) own) ∙ ap (λ (z : List OperandType). z ++ own) (replicate-append-replicate k n Unknown),
      ),
    )

pub Takes-under : (unreachable : Bool) (height : ℕ) (old given mid more new : List OperandType) → Takes unreachable height old given mid
    → Takes unreachable height mid more new → Takes unreachable height old (more ++ given) new
Takes-under unreachable height old given mid more new first second = record {
  at = λ under own parts long.
      let (rest, left, taken) = first.at under own parts long in
      let (last, below, others) = second.at under rest left long in
      (last, below, TakenFrom-under unreachable own given rest last more taken others);
}

-- The same for a list of the taken operands that grows at its end, from the topmost on.
pub Takes-reverse : (unreachable : Bool) (height : ℕ) (old given mid new : List OperandType) (t : OperandType)
    → Takes unreachable height old (reverse given) mid → Takes unreachable height mid (t ∷ []) new
    → Takes unreachable height old (reverse (given ++ t ∷ [])) new
Takes-reverse unreachable height old given mid new t first second = rw (reverse-append given (t ∷ [])) (Takes-under unreachable height old (reverse given) mid (t ∷ []) new first second)

-- One more of the wanted types, from the last to the first.
pub AllFit-down : (wanted : List ValType) (left : ℕ) (given : List OperandType) (t : OperandType) (d : ValType) → left < length wanted
    → Fits t (Known (get_or wanted left d)) → AllFit given (known (drop (left + 1) wanted)) → AllFit (t ∷ given) (known (drop left wanted))
AllFit-down wanted left given t d less one more = rw (drop_more wanted left d less) (one, more)

-- One more index of two lists at which the operand fits.
pub AllFit-up : (given : List OperandType) (wanted : List ValType) (i : ℕ) (d : OperandType) (e : ValType) → i < length given → i < length wanted
    → AllFit (take i given) (known (take i wanted)) → Fits (get_or given i d) (Known (get_or wanted i e))
    → AllFit (take (i + 1) given) (known (take (i + 1) wanted))
AllFit-up given wanted i d e less below before one =
    rw (take_more given i d less, take_more wanted i e below, map-append Known (take i wanted) (get_or wanted i e ∷ []))
    (AllFit-joined (take i given) (known (take i wanted)) (get_or given i d ∷ []) (Known (get_or wanted i e) ∷ []) before (one, tt))

-- At each index of two such lists the operand fits.
pub AllFit-at : (given : List OperandType) (wanted : List ValType) (i : ℕ) (d : OperandType) (e : ValType) → i < length given
    → AllFit given (known wanted) → Fits (get_or given i d) (Known (get_or wanted i e))
AllFit-at [] wanted i d e less fits = absurd (omega arith)
AllFit-at (t ∷ given) [] i d e less fits = absurd fits
AllFit-at (t ∷ given) (w ∷ wanted) zero d e less fits = fits.0
AllFit-at (t ∷ given) (w ∷ wanted) (suc i) d e less fits = AllFit-at given wanted i d e (omega arith) fits.1

-- The same for the result of a pop.
pub Takes-popped : (unreachable : Bool) (height : ℕ) (old new : List OperandType) (answer : Option OperandType) → old ≡ new ++ option_to_list answer
    → height < length old → IfSome answer (λ t. Takes unreachable height old (t ∷ []) new)
Takes-popped unreachable height old new None e high = tt
Takes-popped unreachable height old new (Some t) e high = Takes-top unreachable height old new t e high

-- Lists of one length at the start of the same list are the same, and so is what follows them.
same_start : (a b c d : List OperandType) → a ++ b ≡ c ++ d → length a ≡ length c → (a ≡ c) × (b ≡ d)
same_start [] b [] d e long = (refl, e)
same_start [] b (z ∷ c) d e long = absurd (omega (arith, long))
same_start (x ∷ a) b [] d e long = absurd (omega (arith, long))
same_start (x ∷ a) b (z ∷ c) d e long =
    let tails : a ++ b ≡ c ++ d = cc in
    let same : x ≡ z = cc in
    let rest = same_start a b c d tails (omega (arith, long)) in
    (ap (λ (w : OperandType). w ∷ a) same ∙ ap (λ (l : List OperandType). z ∷ l) rest.0, rest.1)

-- The topmost operands are popped.
pub Takes-many : (unreachable : Bool) (height : ℕ) (old new taken : List OperandType) → old ≡ new ++ taken → height ≤ length new → Takes unreachable height old taken new
Takes-many unreachable height old new taken parts high = record {
  at = λ under own halves long.
      let below = take-append-drop height new in
      let whole : under ++ own ≡ take height new ++ (drop height new ++ taken) =
      sym halves ∙ parts ∙ ap (λ (z : List OperandType). z ++ taken) (sym below) ∙ append_assoc (take height new) (drop height new) taken in
      let same = same_start under own (take height new) (drop height new ++ taken) whole (long ∙ sym (length-take-le height new high)) in
      (drop height new, sym below ∙ ap (λ (z : List OperandType). z ++ drop height new) (sym same.0), inl same.1);
}

-- Unknown operands are popped where the frame has none.
pub Takes-unknown : (height : ℕ) (old : List OperandType) (n : ℕ) → length old ≤ height → Takes true height old (replicate n Unknown) old
Takes-unknown height old n low = record {
  at = λ under own parts long.
      let none : own ≡ [] = nil_from_length own (omega (arith, ap length parts, length-append under own, long, low)) in
      (own, parts, inr (refl, none, (n, sym (ap (λ (z : List OperandType). replicate n Unknown ++ z) none ∙ append-nil (replicate n Unknown)))));
}

-- A pop leaves fewer operands.
pub popped-less : (old new : List OperandType) (r : Option OperandType) → old ≡ new ++ option_to_list r → IfNone r (old ≡ []) → 0 < length old → length new < length old
popped-less old new None parts none some = absurd (omega (arith, ap length none, some))
popped-less old new (Some t) parts none some = omega (arith, ap length parts, length-append new (t ∷ []))

-- The last of two such lists, and those before.
pub AllFit-last : (given : List OperandType) (wanted : List ValType) (i : ℕ) (d : OperandType) (e : ValType) → i < length given → i < length wanted
    → AllFit (take (i + 1) given) (known (take (i + 1) wanted)) → AllFit (take i given) (known (take i wanted)) × Fits (get_or given i d) (Known (get_or wanted i e))
AllFit-last [] wanted i d e less below fits = absurd (omega (arith, less))
AllFit-last (t ∷ given) [] i d e less below fits = absurd (omega (arith, below))
AllFit-last (t ∷ given) (w ∷ wanted) zero d e less below fits = (tt, fits.0)
AllFit-last (t ∷ given) (w ∷ wanted) (suc i) d e less below fits =
    let count : suc i + 1 ≡ suc (i + 1) = omega arith in
    let all : AllFit (t ∷ take (i + 1) given) (known (w ∷ take (i + 1) wanted)) = rw count at fits in
    let (before, last) = AllFit-last given wanted i d e (omega (arith, less)) (omega (arith, below)) all.1 in
    ((all.0, before), last)
