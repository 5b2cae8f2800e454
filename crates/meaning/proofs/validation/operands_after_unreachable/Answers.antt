use Rattle.std.proofs.Common.{◌≡◌, [], ◌∷◌, ◌++◌, List, ap, refl, sym, ◌∙◌}
use Rattle.core_types.specs.declared.types.OperandType.{OperandType}
use Rattle.core_types.specs.declared.types.OperandType.TheVariants.{Known}
use Rattle.core_types.specs.declared.types.ValType.TheVariants.{I32, I64}
use Rattle.core_types.specs.declared.op.ParametricOp.TheVariants.{DropOperand}
use Rattle.core_types.specs.declared.op.PlainOp.TheVariants.{Parametric}
use Rattle.meaning.specs.structure.Bodies.{Empty, Then}
use Rattle.meaning.specs.validation.Rows.{sum_dropped}
use Rattle.meaning.specs.validation.Instructions.{AllFit, Fits, HasType, known}
use Rattle.meaning.proofs.validation.operands_after_unreachable.Goals as goal

pub returns-clause-any : goal.returns-clause-any
returns-clause-any c = λ context.
    let two = known (I32 ∷ I32 ∷ []) in
    let one = known (I32 ∷ []) in
    let dropped : HasType context (Then (Parametric DropOperand) Empty) one [] =
    (one, [], [], (Known I32, refl, refl), record { below = []; given = one; before_is = refl; fits = (refl, tt); after_is = refl }, tt) in
    let added : HasType context sum_dropped two [] = (two, one, one, (refl, refl), record { below = []; given = two; before_is = refl; fits = (refl, (refl, tt)); after_is = refl }, dropped) in
    ([], two, two, tt, record { below = []; given = []; before_is = refl; fits = tt; after_is = refl }, added)

-- The last of two operands on a stack is the one that was pushed last.
last_is : (below : List OperandType) (a b t : OperandType) (under : List OperandType) → under ++ t ∷ [] ≡ below ++ (a ∷ b ∷ []) → t ≡ b
last_is [] a b t [] e = absurd cc
last_is [] a b t (u ∷ []) e = cc
last_is [] a b t (u ∷ v ∷ []) e = absurd cc
last_is [] a b t (u ∷ v ∷ w ∷ under) e = absurd cc
last_is (x ∷ below) a b t [] e = go below (let tails : [] ≡ below ++ (a ∷ b ∷ []) = cc in tails)
  where
    go : (below : List OperandType) → [] ≡ below ++ (a ∷ b ∷ []) → t ≡ b
    go [] e = absurd cc
    go (y ∷ below) e = absurd cc
last_is (x ∷ below) a b t (u ∷ under) e = last_is below a b t under (let tails : under ++ t ∷ [] ≡ below ++ (a ∷ b ∷ []) = cc in tails)

two_fit : (given : List OperandType) → AllFit given (known (I32 ∷ I32 ∷ [])) → (a b : OperandType) × (given ≡ a ∷ b ∷ []) × Fits b (Known I32)
two_fit [] fits = absurd fits
two_fit (a ∷ []) fits = absurd fits.1
two_fit (a ∷ b ∷ []) fits = (a, b, refl, fits.1.0)
two_fit (a ∷ b ∷ c ∷ given) fits = absurd fits.1.1

long_fits : Fits (Known I64) (Known I32) → ⊥
long_fits fit = cc

pub returns-clause-kept : goal.returns-clause-kept
returns-clause-kept c = λ context typed.
    let (no_operands, any, first, rule, stopped, pushed) = typed in
    let (nothing, long, second, is_long, push, added) = pushed in
    let (operands, results, third, is_sum, sum, dropped) = added in
    let (a, b, given, fit) = two_fit sum.given (rw is_sum.0 at sum.fits) in
    let stack : push.below ++ Known I64 ∷ [] ≡ sum.below ++ (a ∷ b ∷ []) = sym (push.after_is ∙ ap (λ ts. push.below ++ ts) is_long.1.1) ∙ sum.before_is ∙ ap (λ ts. sum.below ++ ts) given in
    long_fits (rw (← last_is sum.below a b (Known I64) push.below stack) at fit)
