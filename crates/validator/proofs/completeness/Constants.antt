-- What constant instructions find and leave, in the order of a body from its end: operands of one type.
use Rattle.std.proofs.Common.{◌≡◌, ◌⊎◌, suc, ◌+◌, ◌≤◌, inl, inr, List, [], ◌∷◌, ◌++◌, length, refl, sym, ap, ◌∙◌, subst, arith}
use Rattle.std.proofs.lemmas.List.{append-nil, length-append}
use Rattle.core_types.specs.declared.op.BinaryOp.TheVariants.{Add, Sub, Mul, DivS, DivU, RemS, RemU, And, Or, Xor, Shl, ShrS, ShrU, Rotl, Rotr}
use Rattle.core_types.specs.declared.op.NumericOp.TheVariants.{Binary, Compare, Convert, Eqz, Unary}
use Rattle.core_types.specs.declared.op.NumericOp.{NumericOp}
use Rattle.core_types.specs.declared.op.Op.TheVariants.{Plain}
use Rattle.core_types.specs.declared.op.PlainOp.TheVariants.{Control, BrTable, Reference, Parametric, SelectTyped, Variable, Table, Memory, Numeric, I32Const, I64Const}
use Rattle.core_types.specs.declared.op.PlainOp.{PlainOp}
use Rattle.core_types.specs.declared.op.ReferenceOp.TheVariants as reference
use Rattle.core_types.specs.declared.op.VariableOp.TheVariants.{LocalGet, LocalSet, LocalTee, GlobalGet, GlobalSet}
use Rattle.core_types.specs.declared.types.OperandType.{OperandType}
use Rattle.core_types.specs.declared.types.OperandType.TheVariants.{Known}
use Rattle.core_types.specs.declared.types.ValType.TheVariants.{I32, I64, FuncRef}
use Rattle.core_types.specs.declared.types.ValType.{ValType}
use Rattle.meaning.specs.validation.Context.{Context}
use Rattle.meaning.specs.validation.Instructions.{AllFit, Fits, TakesAndGives, integer_type, known, Rule}
use Rattle.meaning.specs.validation.Modules.{IsConstant, IsConstantOperator}
use Rattle.meaning.specs.validation.Types.{reference_type}
use Rattle.validator.specs.Constants.{Operates}

-- ---- operands of one type

-- Each of these fits the type.
abbrev pub AreFit : ValType → List OperandType → Type 0
AreFit t [] = Unit {0}
AreFit t (u ∷ us) = Fits u (Known t) × AreFit t us

pub fit-parts : (t : ValType) (us vs : List OperandType) → AreFit t (us ++ vs) → AreFit t us × AreFit t vs
fit-parts t [] vs fits = (tt, fits)
fit-parts t (u ∷ us) vs fits = let (first, second) = fit-parts t us vs fits.1 in ((fits.0, first), second)

pub fit-joined : (t : ValType) (us vs : List OperandType) → AreFit t us → AreFit t vs → AreFit t (us ++ vs)
fit-joined t [] vs first second = second
fit-joined t (u ∷ us) vs first second = (first.0, fit-joined t us vs first.1 second)

none_given : (given : List OperandType) → AllFit given [] → given ≡ []
none_given [] fit = refl
none_given (t ∷ ts) fit = absurd fit

two_given : (t : ValType) (given : List OperandType) → AllFit given (known (t ∷ t ∷ [])) → AreFit t given × (length given ≡ 2)
two_given t [] fit = absurd fit
two_given t (u ∷ []) fit = absurd fit.1
two_given t (u ∷ v ∷ []) fit = ((fit.0, (fit.1.0, tt)), refl)
two_given t (u ∷ v ∷ w ∷ us) fit = absurd fit.1.1

-- The type of the last operand is the one that all fit.
last_type : (t u : ValType) → AreFit t (known (u ∷ [])) → u ≡ t
last_type t u fits = let same : Known t ≡ Known u = fits.0 in cc

-- If all operands after an instruction that pushes one fit a type, the pushed one has it, and those before it fit it.
pub before-put : (t u : ValType) (operands results before between : List OperandType) → operands ≡ [] → results ≡ known (u ∷ []) → TakesAndGives operands results before between → AreFit t between
    → (u ≡ t) × AreFit t before × (length between ≡ suc (length before))
before-put t u operands results before between none one frame fits =
    let given : frame.given ≡ [] = none_given frame.given (subst (AllFit frame.given) none frame.fits) in
    let before_is : before ≡ frame.below = frame.before_is ∙ ap (λ (ts : List OperandType). frame.below ++ ts) given ∙ append-nil frame.below in
    let between_is : between ≡ frame.below ++ known (u ∷ []) = frame.after_is ∙ ap (λ (ts : List OperandType). frame.below ++ ts) one in
    let (below, last) = fit-parts t frame.below (known (u ∷ [])) (subst (AreFit t) between_is fits) in
    let longer : length between ≡ length frame.below + 1 = ap (λ (ts : List OperandType). length ts) between_is ∙ length-append frame.below (known (u ∷ [])) in
    let same : length before ≡ length frame.below = ap (λ (ts : List OperandType). length ts) before_is in
    (last_type t u last, subst (AreFit t) (sym before_is) below, omega (arith, longer, same))

-- The same for an instruction that replaces two operands of its type with one.
pub before-operator : (t u : ValType) (operands results before between : List OperandType) → operands ≡ known (u ∷ u ∷ []) → results ≡ known (u ∷ [])
    → TakesAndGives operands results before between → AreFit t between
    → (u ≡ t) × AreFit t before × (2 ≤ length before) × (suc (length between) ≡ length before)
before-operator t u operands results before between two one frame fits =
    let between_is : between ≡ frame.below ++ known (u ∷ []) = frame.after_is ∙ ap (λ (ts : List OperandType). frame.below ++ ts) one in
    let (below, last) = fit-parts t frame.below (known (u ∷ [])) (subst (AreFit t) between_is fits) in
    let type = last_type t u last in
    let (given, count) = two_given u frame.given (subst (AllFit frame.given) two frame.fits) in
    let given_fit : AreFit t frame.given = subst (λ (v : ValType). AreFit v frame.given) type given in
    let longer : length between ≡ length frame.below + 1 = ap (λ (ts : List OperandType). length ts) between_is ∙ length-append frame.below (known (u ∷ [])) in
    let before_length : length before ≡ length frame.below + length frame.given = ap (λ (ts : List OperandType). length ts) frame.before_is ∙ length-append frame.below frame.given in
    (type, subst (AreFit t) (sym frame.before_is) (fit-joined t frame.below frame.given below given_fit), omega (arith, before_length, count), omega (arith, before_length, count, longer))

-- ---- constant instructions

-- It takes two operands of a type, and gives one.
abbrev IsOperatorRule : NumericOp → (operands results : List OperandType) → Type 0
IsOperatorRule op operands results = (u : ValType) × Operates (Numeric op) u × (operands ≡ known (u ∷ u ∷ [])) × (results ≡ known (u ∷ []))

module _ (context : Context) where
  pub operator_rule : (op : NumericOp) (operands results : List OperandType) → IsConstantOperator op → Rule context (Numeric op) operands results → IsOperatorRule op operands results
  unfolding Operates
  operator_rule (Binary width Add) operands results constant rule = (integer_type width, refl, rule.0, rule.1)
  operator_rule (Binary width Sub) operands results constant rule = (integer_type width, refl, rule.0, rule.1)
  operator_rule (Binary width Mul) operands results constant rule = (integer_type width, refl, rule.0, rule.1)
  operator_rule (Binary width DivS) operands results constant rule = absurd constant
  operator_rule (Binary width DivU) operands results constant rule = absurd constant
  operator_rule (Binary width RemS) operands results constant rule = absurd constant
  operator_rule (Binary width RemU) operands results constant rule = absurd constant
  operator_rule (Binary width And) operands results constant rule = absurd constant
  operator_rule (Binary width Or) operands results constant rule = absurd constant
  operator_rule (Binary width Xor) operands results constant rule = absurd constant
  operator_rule (Binary width Shl) operands results constant rule = absurd constant
  operator_rule (Binary width ShrS) operands results constant rule = absurd constant
  operator_rule (Binary width ShrU) operands results constant rule = absurd constant
  operator_rule (Binary width Rotl) operands results constant rule = absurd constant
  operator_rule (Binary width Rotr) operands results constant rule = absurd constant
  operator_rule (Eqz width) operands results constant rule = absurd constant
  operator_rule (Compare width op) operands results constant rule = absurd constant
  operator_rule (Unary width op) operands results constant rule = absurd constant
  operator_rule (Convert op) operands results constant rule = absurd constant

  -- Any other constant instruction takes nothing and gives one value.
  pub gives_one : (op : PlainOp) (operands results : List OperandType) → IsConstant context (Plain op) → Rule context op operands results
      → ((t : ValType) × (operands ≡ []) × (results ≡ known (t ∷ []))) ⊎ ((n : NumericOp) × (op ≡ Numeric n) × IsOperatorRule n operands results)
  gives_one (I32Const n) operands results constant rule = inl (I32, rule.1.0, rule.1.1)
  gives_one (I64Const n) operands results constant rule = inl (I64, rule.1.0, rule.1.1)
  gives_one (Reference (reference.Null r)) operands results constant rule = inl (reference_type r, rule.0, rule.1)
  gives_one (Reference reference.IsNull) operands results constant rule = absurd constant
  gives_one (Reference (reference.Func x)) operands results constant rule = inl (FuncRef, rule.3.0, rule.3.1)
  gives_one (Variable (LocalGet x)) operands results constant rule = absurd constant
  gives_one (Variable (LocalSet x)) operands results constant rule = absurd constant
  gives_one (Variable (LocalTee x)) operands results constant rule = absurd constant
  gives_one (Variable (GlobalGet x)) operands results constant rule = inl (rule.0.value, rule.2.0, rule.2.1)
  gives_one (Variable (GlobalSet x)) operands results constant rule = absurd constant
  gives_one (Control op) operands results constant rule = absurd constant
  gives_one (BrTable table) operands results constant rule = absurd constant
  gives_one (Parametric op) operands results constant rule = absurd constant
  gives_one (SelectTyped types) operands results constant rule = absurd constant
  gives_one (Table op) operands results constant rule = absurd constant
  gives_one (Memory op) operands results constant rule = absurd constant
  gives_one (Numeric op) operands results constant rule = inr (op, refl, operator_rule op operands results constant rule)
