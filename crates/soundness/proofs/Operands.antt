-- What a typed instruction finds on a stack of typed values.
use Rattle.std.proofs.Common.{◌≡◌, ℕ, ◌<◌, ◌^◌, List, [], ◌∷◌, ◌++◌, reverse, refl, ap, ap₂, sym, ◌∙◌}
use Rattle.std.proofs.lemmas.List.{map-append, reverse-append, reverse-reverse}
use Rattle.core_types.specs.declared.outcome.Val.{Val}
use Rattle.core_types.specs.declared.outcome.Val.TheVariants.{I32, I64, FuncRef, ExternRef}
use Rattle.core_types.specs.declared.types.FuncType.{FuncType}
use Rattle.core_types.specs.declared.types.OperandType.{OperandType}
use Rattle.core_types.specs.declared.types.OperandType.TheVariants.{Known}
use Rattle.core_types.specs.declared.types.ValType.{ValType}
use Rattle.core_types.specs.declared.types.ValType.TheVariants as ty
use Rattle.meaning.specs.execution.Store.{Store}
use Rattle.meaning.specs.soundness.Values.{ValueHasType, ValuesHaveTypes}
use Rattle.meaning.specs.validation.Instructions.{AllFit, TakesAndGives, HasFuncType, known}

-- ---- known types

pub known-fits : (ts : List ValType) (us : List OperandType) → AllFit (known ts) us → us ≡ known ts
known-fits [] [] fits = refl
known-fits [] (u ∷ us) fits = absurd fits
known-fits (t ∷ ts) [] fits = absurd fits
known-fits (t ∷ ts) (u ∷ us) fits = rw (fits.0, known-fits ts us fits.1) refl

pub known-same : (ts us : List ValType) → known ts ≡ known us → ts ≡ us
known-same [] [] same = refl
known-same [] (u ∷ us) same = absurd cc
known-same (t ∷ ts) [] same = absurd cc
known-same (t ∷ ts) (u ∷ us) same =
    let first : t ≡ u = cc in
    let others : known ts ≡ known us = cc in
    rw (first, known-same ts us others) refl

pub known-parts : (ts : List ValType) (below given : List OperandType) → known ts ≡ below ++ given → (bs gs : List ValType) × (ts ≡ bs ++ gs) × (below ≡ known bs) × (given ≡ known gs)
known-parts ts [] given is = ([], ts, refl, refl, sym is)
known-parts [] (b ∷ below) given is = absurd cc
known-parts (t ∷ ts) (b ∷ below) given is =
    let first : b ≡ Known t = cc in
    let others : known ts ≡ below ++ given = cc in
    let (bs, gs, parts, below_is, given_is) = known-parts ts below given others in
    (t ∷ bs, gs, ap (λ (z : List ValType). t ∷ z) parts, ap₂ (λ (u : OperandType) (us : List OperandType). u ∷ us) first below_is, given_is)

-- An operand that is popped from known types is known, and so are the types that stay.
pub taken : (operands results : List OperandType) (before : List ValType) (after : List OperandType) → TakesAndGives operands results (known before) after
    → (below given : List ValType) × (before ≡ below ++ given) × (operands ≡ known given) × (after ≡ known below ++ results)
taken operands results before after frame =
    let (bs, gs, parts, below_is, given_is) = known-parts before frame.below frame.given frame.before_is in
    (bs, gs, parts, known-fits gs operands (rw given_is at frame.fits), frame.after_is ∙ ap (λ (z : List OperandType). z ++ results) below_is)

-- ---- the stack

-- The types of a stack whose reverse has these two parts.
stack-parts : (stack below given : List ValType) → reverse stack ≡ below ++ given → stack ≡ reverse given ++ reverse below
stack-parts stack below given is = sym (reverse-reverse stack) ∙ ap (λ (z : List ValType). reverse z) is ∙ reverse-append below given

results-known : (below results : List ValType) → known below ++ known results ≡ known (reverse (reverse results ++ reverse below))
results-known below results =
    sym (map-append Known below results)
    ∙ ap (λ (z : List ValType). known z)
    (sym (reverse-append (reverse results) (reverse below) ∙ ap (λ (z : List ValType). z ++ reverse (reverse results)) (reverse-reverse below) ∙
    ap (λ (z : List ValType). below ++ z) (reverse-reverse results)))

module _ (stack : List ValType) (s : FuncType) (operands results between : List OperandType) where
  -- The operands of an instruction of one type are on top, and its results replace them.
  pub operands-on-top : HasFuncType s operands results → TakesAndGives operands results (known (reverse stack)) between
      → (below : List ValType) × (stack ≡ reverse s.params ++ below) × (between ≡ known (reverse (reverse s.results ++ below)))
  operands-on-top (takes, gives) frame =
      let (below, given, parts, operands_are, after) = taken operands results (reverse stack) between frame in
      let same : given ≡ s.params = known-same given s.params (sym operands_are ∙ takes) in (
        reverse below,
        stack-parts stack below given parts ∙ ap (λ (z : List ValType). reverse z ++ reverse below) same,
        after ∙ ap (λ (z : List OperandType). known below ++ z) gives ∙ results-known below s.results,
      )

-- ---- values of one type

module _ (store : Store) (values : List Val) (below : List ValType) where
  pub i32-on-top : ValuesHaveTypes store values (ty.I32 ∷ below) → (n : ℕ) × (rest : List Val) × (values ≡ I32 n ∷ rest) × (n < 2 ^ 32) × ValuesHaveTypes store rest below
  i32-on-top = by values
    where
      by : (vs : List Val) → ValuesHaveTypes store vs (ty.I32 ∷ below) → (n : ℕ) × (rest : List Val) × (vs ≡ I32 n ∷ rest) × (n < 2 ^ 32) × ValuesHaveTypes store rest below
      by [] typed = absurd typed
      by (I32 n ∷ vs) ((is, fits), typed) = (n, vs, refl, fits, typed)
      by (I64 n ∷ vs) ((is, fits), typed) = absurd cc
      by (FuncRef a ∷ vs) ((is, fits), typed) = absurd cc
      by (ExternRef x ∷ vs) ((is, fits), typed) = absurd cc

  pub i64-on-top : ValuesHaveTypes store values (ty.I64 ∷ below) → (n : ℕ) × (rest : List Val) × (values ≡ I64 n ∷ rest) × (n < 2 ^ 64) × ValuesHaveTypes store rest below
  i64-on-top = by values
    where
      by : (vs : List Val) → ValuesHaveTypes store vs (ty.I64 ∷ below) → (n : ℕ) × (rest : List Val) × (vs ≡ I64 n ∷ rest) × (n < 2 ^ 64) × ValuesHaveTypes store rest below
      by [] typed = absurd typed
      by (I32 n ∷ vs) ((is, fits), typed) = absurd cc
      by (I64 n ∷ vs) ((is, fits), typed) = (n, vs, refl, fits, typed)
      by (FuncRef a ∷ vs) ((is, fits), typed) = absurd cc
      by (ExternRef x ∷ vs) ((is, fits), typed) = absurd cc

  pub value-on-top : (t : ValType) → ValuesHaveTypes store values (t ∷ below) → (v : Val) × (rest : List Val) × (values ≡ v ∷ rest) × ValueHasType store v t × ValuesHaveTypes store rest below
  value-on-top t = by values
    where
      by : (vs : List Val) → ValuesHaveTypes store vs (t ∷ below) → (v : Val) × (rest : List Val) × (vs ≡ v ∷ rest) × ValueHasType store v t × ValuesHaveTypes store rest below
      by [] typed = absurd typed
      by (v ∷ vs) typed = (v, vs, refl, typed.0, typed.1)
