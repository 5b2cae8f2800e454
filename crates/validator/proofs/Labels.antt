-- A label by its index, from the inside out.
use Rattle.std.proofs.Common.{◌≡◌, ℕ, zero, suc, ◌-◌, ◌<◌, ◌≤◌, List, [], ◌∷◌, length, map, reverse, get_or, ap, ◌∙◌, refl, subst, sym, None, Some, true, eqb, arith}
use Rattle.std.proofs.lemmas.List.Elements.{All-get_or, All-weaker}
use Rattle.std.proofs.lemmas.List.{length-map, length-reverse, get_or-reverse, get_or-map}
use Rattle.std.proofs.lemmas.Option.{slice_get-get_or}
use Rattle.std.proofs.lemmas.Bool.{eqb-true}
use Rattle.std.specs.Option.{option_eq}
use Rattle.std.specs.Prelude.{All, IfSome, Option, slice_get}
use Rattle.core_types.specs.declared.types.OperandType.TheVariants.{Known}
use Rattle.core_types.specs.declared.types.OperandType.{OperandType}
use Rattle.core_types.specs.declared.types.ValType.{ValType}
use Rattle.meaning.proofs.lemmas.Typing.{AllFit-through}
use Rattle.meaning.specs.validation.Instructions.{AllFit, known}
use Rattle.validator.specs.declared.control_frames.ControlFrame.{ControlFrame}
use Rattle.validator.specs.ControlFrames.{label_of, FitsLabelAt}

pub label-at : (innermost : ControlFrame) (outer : List ControlFrame) (n : ℕ) (x : ControlFrame) → 0 < n → n ≤ length outer
    → slice_get (map label_of (innermost ∷ reverse outer)) n ≡ Some (label_of (get_or outer (length outer - n) x))
label-at innermost outer zero x some le = absurd (omega arith)
label-at innermost outer (suc k) x some le =
    let there : length outer - 1 - k ≡ length outer - suc k = omega arith in
    let at : get_or (reverse outer) k x ≡ get_or outer (length outer - suc k) x = get_or-reverse outer k x (omega arith) ∙ ap (λ (i : ℕ). get_or outer i x) there in
    let inside : suc k < length (innermost ∷ reverse outer) = omega (arith, length-reverse outer) in
    slice_get-get_or (map label_of (innermost ∷ reverse outer)) (suc k) (label_of x) (omega (arith, inside, length-map (innermost ∷ reverse outer) label_of))
    ∙ ap Some (get_or-map label_of (innermost ∷ reverse outer) (suc k) x (label_of x) inside ∙ ap label_of at)

-- The same in equal lists of frames.
pub label-along : (innermost : ControlFrame) (outer same : List ControlFrame) (n : ℕ) (types : List ValType) → outer ≡ same
    → slice_get (map label_of (innermost ∷ reverse outer)) n ≡ Some types → slice_get (map label_of (innermost ∷ reverse same)) n ≡ Some types
label-along innermost outer same n types e found = subst (λ (z : List ControlFrame). slice_get (map label_of (innermost ∷ reverse z)) n ≡ Some types) e found

pub carry-along : (innermost : ControlFrame) (outer same : List ControlFrame) (given operands : List OperandType) (ns labels : List ℕ) → outer ≡ same
    → given ≡ operands → ns ≡ labels → All (FitsLabelAt innermost outer given) ns → All (FitsLabelAt innermost same operands) labels
carry-along innermost outer same given operands ns labels levels_are operands_are labels_are all =
    subst (All (FitsLabelAt innermost same operands)) labels_are
    (subst (λ (z : List OperandType). All (FitsLabelAt innermost same z) ns) operands_are
    (subst (λ (z : List ControlFrame). All (FitsLabelAt innermost z given) ns) levels_are all))

-- There is no such label, or there is only one type that it carries.
pub label-missing : (innermost : ControlFrame) (outer same : List ControlFrame) (n : ℕ) (types : List ValType) → outer ≡ same
    → slice_get (map label_of (innermost ∷ reverse outer)) n ≡ None → slice_get (map label_of (innermost ∷ reverse same)) n ≡ Some types → ⊥
label-missing innermost outer same n types e none found = let both : None ≡ Some types = sym none ∙ ap (λ (z : List ControlFrame). slice_get (map label_of (innermost ∷ reverse z)) n) e ∙ found in cc

pub label-unique : (control_stack : List ControlFrame) (n : ℕ) (types others : List ValType) → slice_get (map label_of control_stack) n ≡ Some types
    → slice_get (map label_of control_stack) n ≡ Some others → types ≡ others
label-unique control_stack n types others found other = let both : Some types ≡ Some others = sym found ∙ other in cc

-- If a label is missing, or the operands do not fit its types, they may not be carried to it.
pub carry-missing : (innermost : ControlFrame) (outer : List ControlFrame) (given : List OperandType) (ns : List ℕ) (i : ℕ) (n : ℕ) → i < length ns
    → get_or ns i 0 ≡ n → slice_get (map label_of (innermost ∷ reverse outer)) n ≡ None → All (FitsLabelAt innermost outer given) ns → ⊥
carry-missing innermost outer given ns i n less is none all =
    let (types, found, fits) = subst (FitsLabelAt innermost outer given) is (All-get_or (FitsLabelAt innermost outer given) ns i 0 less all) in
    let both : None ≡ Some types = sym none ∙ found in cc

pub carry-misfit : (innermost : ControlFrame) (outer : List ControlFrame) (given : List OperandType) (ns : List ℕ) (i : ℕ) (n : ℕ)
    (types : List ValType) → i < length ns → get_or ns i 0 ≡ n → slice_get (map label_of (innermost ∷ reverse outer)) n ≡ Some types
    → (AllFit given (known types) → ⊥) → All (FitsLabelAt innermost outer given) ns → ⊥
carry-misfit innermost outer given ns i n types less is found wrong all =
    let (others, other, fits) = subst (FitsLabelAt innermost outer given) is (All-get_or (FitsLabelAt innermost outer given) ns i 0 less all) in
    wrong (subst (λ (z : List ValType). AllFit given (known z)) (label-unique (innermost ∷ reverse outer) n others types other found) fits)

-- If operands fit others that may be carried, they may be carried too.
pub carry-through : (innermost : ControlFrame) (outer : List ControlFrame) (taken given : List OperandType) (ns : List ℕ) → AllFit taken given
    → All (FitsLabelAt innermost outer given) ns → All (FitsLabelAt innermost outer taken) ns
carry-through innermost outer taken given ns fit all = All-weaker (FitsLabelAt innermost outer given) (FitsLabelAt innermost outer taken)
    (λ n (types, found, fits). (types, found, AllFit-through taken given (known types) fit fits)) ns all

-- What holds for a label that is kept holds for one of the same number.
pub same-label : (P : ℕ → Type 0) (kept : Option ℕ) (n : ℕ) → option_eq eqb kept (Some n) ≡ true → IfSome kept P → P n
same-label P None n is holds = absurd cc
same-label P (Some m) n is holds = subst P (eqb-true m n is) holds

-- Known operands fit only their own types.
pub AllFit-known : (types others : List ValType) → AllFit (known types) (known others) → types ≡ others
AllFit-known [] [] fits = refl
AllFit-known [] (u ∷ others) fits = absurd fits
AllFit-known (t ∷ types) [] fits = absurd fits
AllFit-known (t ∷ types) (u ∷ others) fits =
    let same : Known u ≡ Known t = fits.0 in
    let one : t ≡ u = cc in
    ap (λ (x : ValType). x ∷ types) one ∙ ap (λ (z : List ValType). u ∷ z) (AllFit-known types others fits.1)
