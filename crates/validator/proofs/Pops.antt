-- The results of pops.
use Rattle.std.proofs.Common.{◌≡◌, ◌&&◌, Bool, true, false, List, [], ◌∷◌, ◌++◌, refl, sym, subst}
use Rattle.std.specs.Bool.{OnTrue}
use Rattle.std.specs.Prelude.{IsTrue, ◌↔◌}
use Rattle.std.proofs.lemmas.List.{map-append}
use Rattle.core_types.specs.declared.types.OperandType.{OperandType}
use Rattle.core_types.specs.declared.types.OperandType.TheVariants.{Known}
use Rattle.core_types.specs.declared.types.ValType.{ValType}
use Rattle.meaning.specs.validation.Instructions.{Fits, known}
use Rattle.meaning.proofs.lemmas.Typing.{AllFit-joined, AllFit-same}
use Rattle.validator.specs.declared.control_frames.ControlFrame.{ControlFrame}
use Rattle.validator.specs.Operands.{DropsTop, Pops, PopsOne, Refuses, Replaces, ReplacesTop, TakesOff}
use Rattle.validator.proofs.OperandStack.{Takes-many, Takes-under}
use Rattle.validator.proofs.completeness.Covers.{Refuses-misfit, Refuses-top, Refuses-under}

-- Both of two tests are true.
pub both : (a b : Bool) → IsTrue a → IsTrue b → IsTrue (a && b)
both true b first second = second
both false b first second = first

pub first_of_both : (a b : Bool) → IsTrue (a && b) → IsTrue a
first_of_both true b is = refl
first_of_both false b is = is

pub second_of_both : (a b : Bool) → IsTrue (a && b) → IsTrue b
second_of_both true b is = is
second_of_both false b is = let e : false ≡ true = is in absurd cc

module _ (frame : ControlFrame) (old : List OperandType) where
  -- The topmost operand was taken, and tested whether it fits.
  pub pop_answer : (answer : Bool) (new : List OperandType) (t wanted : OperandType) → TakesOff frame old (t ∷ []) new
      → (IsTrue answer ↔ Fits t wanted) → PopsOne frame old wanted new answer
  pop_answer true new t wanted takes test = (t, takes, test.0 refl)
  pop_answer false new t wanted takes test =
      Refuses-misfit frame.unreachable frame.height old (t ∷ []) new (wanted ∷ []) takes refl (λ fit. let e : false ≡ true = test.1 fit.0 in absurd cc)

  with_top_known : (wanted : List ValType) (top : ValType) → known (wanted ++ top ∷ []) ≡ known wanted ++ Known top ∷ []
  with_top_known wanted top = map-append Known wanted (top ∷ [])

  -- No operand of the topmost type could be taken.
  pub no_top : (wanted : List ValType) (top : ValType) → Refuses frame.unreachable frame.height old (Known top ∷ []) → Refuses frame.unreachable frame.height old (known (wanted ++ top ∷ []))
  no_top wanted top refuses =
      subst (Refuses frame.unreachable frame.height old) (sym (with_top_known wanted top)) (Refuses-top frame.unreachable frame.height old (known wanted) (Known top) refuses)

  -- An operand of the topmost type was taken, and then those below it.
  pub under_top : (answer : Bool) (mid new : List OperandType) (wanted : List ValType) (top : ValType) (t : OperandType) → TakesOff frame old (t ∷ []) mid → Fits t (Known top)
      → Pops frame mid (known wanted) new answer → Pops frame old (known (wanted ++ top ∷ [])) new answer
  under_top true mid new wanted top t takes fit (given, taken, fits) = (
    given ++ t ∷ [],
    Takes-under frame.unreachable frame.height old (t ∷ []) mid given new takes taken,
    rw (with_top_known wanted top) (AllFit-joined given (known wanted) (t ∷ []) (Known top ∷ []) fits (fit, tt)),
  )
  under_top false mid new wanted top t takes fit refuses =
      subst (Refuses frame.unreachable frame.height old) (sym (with_top_known wanted top)) (Refuses-under frame.unreachable frame.height old mid (known wanted) t (Known top) takes refuses)

  -- One operand is the last one.
  pub one_popped : (answer : Bool) (new : List OperandType) (wanted : ValType) → PopsOne frame old (Known wanted) new answer → Pops frame old (known (wanted ∷ [])) new answer
  one_popped true new wanted (t, takes, fit) = (t ∷ [], takes, (fit, tt))
  one_popped false new wanted refuses = refuses

  -- The topmost operands were removed.
  pub dropped_top : (new : List OperandType) (wanted : List ValType) → DropsTop frame.height old wanted new → Pops frame old (known wanted) new true
  dropped_top new wanted (parts, high) = (known wanted, Takes-many frame.unreachable frame.height old new (known wanted) parts high, AllFit-same (known wanted))

  -- The topmost operands were replaced.
  pub replaced_top : (answer : Bool) (new : List OperandType) (wanted : List ValType) (given : ValType) → OnTrue answer (ReplacesTop frame.height old wanted given new)
      → OnTrue answer (Replaces frame old wanted (given ∷ []) new)
  replaced_top true new wanted given (rest, parts, high, is) = (rest, Takes-many frame.unreachable frame.height old rest (known wanted) parts high, is)
  replaced_top false new wanted given nothing = tt
