-- Laws of the operands of a typing that a frame's own operands cover.
use Rattle.std.proofs.Common.{◌≡◌, ℕ, zero, suc, ◌+◌, ◌<◌, ◌≤◌, Bool, true, false, List, [], ◌∷◌, ◌++◌, length, length-append, take, drop, get_or, replicate}
use Rattle.std.proofs.Common.{refl, sym, ap, subst, ◌∙◌, inl, inr, append_assoc, arith}
use Rattle.std.proofs.lemmas.List.{append-nil, drop_more, length-replicate, map-append, nil_from_length, take-append-drop}
use Rattle.core_types.specs.declared.types.OperandType.TheVariants.{Known, Unknown}
use Rattle.core_types.specs.declared.types.OperandType.{OperandType}
use Rattle.core_types.specs.declared.types.ValType.{ValType}
use Rattle.meaning.proofs.lemmas.Typing.{AllFit-joined, AllFit-parts, AllFit-through}
use Rattle.meaning.specs.validation.Instructions.{AllFit, known}
use Rattle.validator.specs.Operands.{Covers, IsDry, Refuses, TakenFrom, Takes}
use Rattle.validator.proofs.OperandStack.{Takes-nothing}

-- Lists of one length at the end of the same list are the same, and so is what is before them.
pub same_end : {A : Type 0} (a b c d : List A) → a ++ b ≡ c ++ d → length b ≡ length d → (a ≡ c) × (b ≡ d)
same_end {A = A} [] b [] d e long = (refl, e)
same_end {A = A} [] b (z ∷ c) d e long = absurd (omega (arith, ap length e, length-append c d))
same_end {A = A} (x ∷ a) b [] d e long = absurd (omega (arith, ap length e, length-append a b))
same_end {A = A} (x ∷ a) b (z ∷ c) d e long =
    let tails : a ++ b ≡ c ++ d = cc in
    let same : x ≡ z = cc in
    let rest = same_end a b c d tails long in
    (ap (λ (w : A). w ∷ a) same ∙ ap (λ (l : List A). z ∷ l) rest.0, rest.1)

pub AllFit-length : (ts us : List OperandType) → AllFit ts us → length ts ≡ length us
AllFit-length [] [] fits = refl
AllFit-length [] (u ∷ us) fits = absurd fits
AllFit-length (t ∷ ts) [] fits = absurd fits
AllFit-length (t ∷ ts) (u ∷ us) fits = ap suc (AllFit-length ts us fits.1)

-- If a list fits two joined lists, its parts fit them.
pub AllFit-split : (ts more us : List OperandType) → AllFit (ts ++ more) us → (front back : List OperandType) × (us ≡ front ++ back) × AllFit ts front × AllFit more back
AllFit-split [] more us fits = ([], us, refl, tt, fits)
AllFit-split (t ∷ ts) more [] fits = absurd fits
AllFit-split (t ∷ ts) more (u ∷ us) fits =
    let (front, back, parts, first, second) = AllFit-split ts more us fits.1 in
    (u ∷ front, back, ap (λ (z : List OperandType). u ∷ z) parts, (fits.0, first), second)

cut : (n : ℕ) (ts : List OperandType) → n ≤ length ts → (front back : List OperandType) × (ts ≡ front ++ back) × (length front ≡ n)
cut zero ts le = ([], ts, refl, refl)
cut (suc n) [] le = absurd (omega arith)
cut (suc n) (t ∷ ts) le =
    let (front, back, parts, long) = cut n ts (omega arith) in
    (t ∷ front, back, ap (λ (z : List OperandType). t ∷ z) parts, ap suc long)

pub unknown_fit : (n : ℕ) (us : List OperandType) → length us ≡ n → AllFit (replicate n Unknown) us
unknown_fit zero [] e = tt
unknown_fit zero (u ∷ us) e = absurd (omega arith)
unknown_fit (suc n) [] e = absurd (omega arith)
unknown_fit (suc n) (u ∷ us) e = (tt, unknown_fit n us (omega arith))

-- If the same number of operands is taken from a typing's, the rest covers those that are left, and the taken ones fit those of the
-- typing.
pub Covers-taken : (unreachable : Bool) (own given rest theirs below top : List OperandType) → Covers unreachable own theirs
    → TakenFrom unreachable own given rest → theirs ≡ below ++ top → length top ≡ length given → Covers unreachable rest below × AllFit given top
Covers-taken unreachable own given rest theirs below top covers (inl parts) e long =
    let (front, back, halves, first, second) = AllFit-split rest given covers.top (rw parts at covers.fits) in
    let whole : (covers.others ++ front) ++ back ≡ below ++ top = append_assoc covers.others front back ∙ ap (λ (z : List OperandType). covers.others ++ z) (sym halves) ∙ sym covers.parts ∙ e in
    let same = same_end (covers.others ++ front) back below top whole (omega (arith, long, AllFit-length given back second)) in
    (record { others = covers.others; top = front; parts = sym same.0; fits = first; alone = covers.alone }, subst (λ (z : List OperandType). AllFit given z) same.1 second)
Covers-taken unreachable own given rest theirs below top covers (inr (dead, nothing, (n, parts))) e long =
    let sizes : length given ≡ n + length own = ap length parts ∙ length-append (replicate n Unknown) own ∙ ap (λ (k : ℕ). k + length own) (length-replicate n Unknown) in
    let (front, back, halves, count) = cut n top (omega (arith, long, sizes)) in
    let whole : covers.others ++ covers.top ≡ (below ++ front) ++ back = sym covers.parts ∙ e ∙ ap (λ (z : List OperandType). below ++ z) halves ∙ sym (append_assoc below front back) in
    let total : length top ≡ length front + length back = ap length halves ∙ length-append front back in
    let same = same_end covers.others covers.top (below ++ front) back whole (omega (arith, long, sizes, count, total, AllFit-length own covers.top covers.fits)) in
    let fits : AllFit (replicate n Unknown ++ own) (front ++ back) = AllFit-joined (replicate n Unknown) front own back (unknown_fit n front count)
    (subst (λ (z : List OperandType). AllFit own z) same.1 covers.fits) in (
      record { others = below; top = []; parts = sym (append-nil below); fits = rw nothing tt; alone = λ alive. let both : true ≡ false = sym dead ∙ alive in absurd cc },
      rw (parts, halves) fits,
    )

-- What was taken does not fit what is wanted.
pub Refuses-misfit : (unreachable : Bool) (height : ℕ) (old given new wanted : List OperandType) → Takes unreachable height old given new
    → length given ≡ length wanted → (AllFit given wanted → ⊥) → Refuses unreachable height old wanted
Refuses-misfit unreachable height old given new wanted takes same wrong = record {
  at = λ under own parts long theirs below top covers e fit.
      let (rest, left, taken) = takes.at under own parts long in
      let (covered, fits) = Covers-taken unreachable own given rest theirs below top covers taken e (AllFit-length top wanted fit ∙ sym same) in
      wrong (AllFit-through given top wanted fits fit);
}

-- All that the frame has was taken, and it is less than what is wanted.
pub Refuses-short : (unreachable : Bool) (height : ℕ) (old given new wanted : List OperandType) → Takes unreachable height old given new
    → IsDry unreachable height new → length given < length wanted → Refuses unreachable height old wanted
Refuses-short unreachable height old given new wanted takes (alive, low) less = record {
  at = λ under own parts long theirs below top covers e fit.
      let (rest, left, taken) = takes.at under own parts long in
      let nothing : rest ≡ [] = nil_from_length rest (omega (arith, ap length left, length-append under rest)) in
      let all : length own ≡ length given = taken_all own given rest alive nothing taken in
      let none : length theirs ≡ length covers.top = ap length covers.parts ∙ ap (λ (z : List OperandType). length (z ++ covers.top)) (covers.alone alive) in
      omega (arith, less, all, none, AllFit-length own covers.top covers.fits, ap length e, length-append below top, AllFit-length top wanted fit);
}
  where
    taken_all : (own given rest : List OperandType) → unreachable ≡ false → rest ≡ [] → TakenFrom unreachable own given rest → length own ≡ length given
    taken_all own given rest alive nothing (inl parts) = ap length parts ∙ ap (λ (z : List OperandType). length (z ++ given)) nothing
    taken_all own given rest alive nothing (inr (dead, none, more)) = let both : true ≡ false = sym dead ∙ alive in absurd cc

-- The frame has no operand, and one is wanted.
pub Refuses-dry : (unreachable : Bool) (height : ℕ) (old : List OperandType) (wanted : OperandType) → IsDry unreachable height old → Refuses unreachable height old (wanted ∷ [])
Refuses-dry unreachable height old wanted dry = Refuses-short unreachable height old [] old (wanted ∷ []) (Takes-nothing unreachable height old) dry (omega arith)

-- If operands of the last types were taken and the one before is refused, all of them are refused.
pub Refuses-more : (unreachable : Bool) (height : ℕ) (old given new front back : List OperandType) (wanted : OperandType)
    → Takes unreachable height old given new → AllFit given back → Refuses unreachable height new (wanted ∷ [])
    → Refuses unreachable height old (front ++ (wanted ∷ back))
Refuses-more unreachable height old given new front back wanted takes fits refuses = record {
  at = λ under own parts long theirs below top covers e fit.
      let (first, others, halves, fit_first, fit_others) = AllFit-parts top front (wanted ∷ back) fit in
      let (one, last, parts_others, fit_one, fit_last) = AllFit-parts others (wanted ∷ []) back fit_others in
      let (rest, left, taken) = takes.at under own parts long in
      let whole : theirs ≡ ((below ++ first) ++ one) ++ last =
      e ∙ ap (λ (z : List OperandType). below ++ z) (halves ∙ ap (λ (z : List OperandType). first ++ z) parts_others) ∙ sym
      (append_assoc below first (one ++ last)) ∙ sym (append_assoc (below ++ first) one last) in
      let covered = Covers-taken unreachable own given rest theirs ((below ++ first) ++ one) last covers taken whole (AllFit-length last back fit_last ∙ sym (AllFit-length given back fits)) in
      refuses.at under rest left long ((below ++ first) ++ one) (below ++ first) one covered.0 refl fit_one;
}

-- The same for types, the last of which were taken.
pub Refuses-down : (unreachable : Bool) (height : ℕ) (old given new : List OperandType) (wanted : List ValType) (left : ℕ) (d : ValType)
    → left < length wanted → Takes unreachable height old given new → AllFit given (known (drop (left + 1) wanted))
    → Refuses unreachable height new (Known (get_or wanted left d) ∷ []) → Refuses unreachable height old (known wanted)
Refuses-down unreachable height old given new wanted left d less takes fits refuses =
    let parts : known wanted ≡ known (take left wanted) ++ (Known (get_or wanted left d) ∷ known (drop (left + 1) wanted)) =
    ap known (sym (take-append-drop left wanted)) ∙ map-append Known (take left wanted) (drop left wanted) ∙ ap
    (λ (z : List ValType). known (take left wanted) ++ known z) (drop_more wanted left d less) in
    subst (λ (z : List OperandType). Refuses unreachable height old z) (sym parts)
    (Refuses-more unreachable height old given new (known (take left wanted)) (known (drop (left + 1) wanted)) (Known (get_or wanted left d))
    takes fits refuses)

-- Results that fit those of a typing are pushed.
pub Covers-put : (unreachable : Bool) (own theirs results others : List OperandType) → Covers unreachable own theirs → AllFit results others → Covers unreachable (own ++ results) (theirs ++ others)
Covers-put unreachable own theirs results others covers fits = record {
  others = covers.others;
  top = covers.top ++ others;
  parts = ap (λ (z : List OperandType). z ++ others) covers.parts ∙ append_assoc covers.others covers.top others;
  fits = AllFit-joined own covers.top results others covers.fits fits;
  alone = covers.alone;
}

-- The topmost of the wanted operands is refused.
pub Refuses-top : (unreachable : Bool) (height : ℕ) (old front : List OperandType) (wanted : OperandType)
    → Refuses unreachable height old (wanted ∷ []) → Refuses unreachable height old (front ++ wanted ∷ [])
Refuses-top unreachable height old front wanted refuses = Refuses-more unreachable height old [] old front [] wanted (Takes-nothing unreachable height old) tt refuses

-- Operands are refused below one that was taken.
pub Refuses-under : (unreachable : Bool) (height : ℕ) (old mid wanted : List OperandType) (t topmost : OperandType)
    → Takes unreachable height old (t ∷ []) mid → Refuses unreachable height mid wanted → Refuses unreachable height old (wanted ++ topmost ∷ [])
Refuses-under unreachable height old mid wanted t topmost takes refuses = record {
  at = λ under own parts long theirs below top covers e fit.
      let (front, back, halves, fit_front, fit_back) = AllFit-parts top wanted (topmost ∷ []) fit in
      let (rest, left, taken) = takes.at under own parts long in
      let whole : theirs ≡ (below ++ front) ++ back = e ∙ ap (λ (z : List OperandType). below ++ z) halves ∙ sym (append_assoc below front back) in
      let covered = Covers-taken unreachable own (t ∷ []) rest theirs (below ++ front) back covers taken whole (AllFit-length back (topmost ∷ []) fit_back) in
      refuses.at under rest left long (below ++ front) below front covered.0 refl fit_front;
}

-- The last of the wanted operands are refused.
pub Refuses-front : (unreachable : Bool) (height : ℕ) (old front back : List OperandType)
    → Refuses unreachable height old back → Refuses unreachable height old (front ++ back)
Refuses-front unreachable height old front back refuses = record {
  at = λ under own parts long theirs below top covers e fit.
      let (first, last, halves, fit_first, fit_last) = AllFit-parts top front back fit in
      let whole : theirs ≡ (below ++ first) ++ last = e ∙ ap (λ (z : List OperandType). below ++ z) halves ∙ sym (append_assoc below first last) in
      refuses.at under own parts long theirs (below ++ first) last covers whole fit_last;
}

-- Operands are refused below others that were taken.
pub Refuses-below : (unreachable : Bool) (height : ℕ) (old given mid front back : List OperandType)
    → Takes unreachable height old given mid → AllFit given back → Refuses unreachable height mid front
    → Refuses unreachable height old (front ++ back)
Refuses-below unreachable height old given mid front back takes fits refuses = record {
  at = λ under own parts long theirs below top covers e fit.
      let (first, last, halves, fit_first, fit_last) = AllFit-parts top front back fit in
      let (rest, left, taken) = takes.at under own parts long in
      let whole : theirs ≡ (below ++ first) ++ last = e ∙ ap (λ (z : List OperandType). below ++ z) halves ∙ sym (append_assoc below first last) in
      let covered = Covers-taken unreachable own given rest theirs (below ++ first) last covers taken whole (AllFit-length last back fit_last ∙ sym (AllFit-length given back fits)) in
      refuses.at under rest left long (below ++ first) below first covered.0 refl fit_first;
}

-- Known operands fit only the same types.
pub known_fit : (xs ys : List ValType) → AllFit (known xs) (known ys) → xs ≡ ys
known_fit [] [] fits = refl
known_fit [] (y ∷ ys) fits = absurd fits
known_fit (x ∷ xs) [] fits = absurd fits
known_fit (x ∷ xs) (y ∷ ys) fits =
    let same : Known y ≡ Known x = fits.0 in
    let types : x ≡ y = cc in
    ap (λ (z : ValType). z ∷ xs) types ∙ ap (λ (z : List ValType). y ∷ z) (known_fit xs ys fits.1)
