-- Effects that leave the store unchanged: parametric instructions, references, locals and constants.
use Rattle.std.proofs.Common.{◌≡◌, ℕ, zero, suc, ◌<◌, ◌^◌, List, [], ◌∷◌, ◌++◌, reverse, Option, Some, None, refl, ap, ◌∙◌, arith}
use Rattle.std.proofs.lemmas.Bool.{lt-ltb}
use Rattle.std.proofs.lemmas.Option.{slice_get_within}
use Rattle.std.specs.Prelude.{Bool, if◌then◌else◌, nat_lt}
use Rattle.core_types.specs.declared.op.ParametricOp.{ParametricOp}
use Rattle.core_types.specs.declared.op.ParametricOp.TheVariants.{DropOperand, Select}
use Rattle.core_types.specs.declared.op.ReferenceOp.{ReferenceOp}
use Rattle.core_types.specs.declared.op.ReferenceOp.TheVariants as reference
use Rattle.core_types.specs.declared.outcome.Val.{Val}
use Rattle.core_types.specs.declared.outcome.Val.TheVariants.{I32, I64, FuncRef, ExternRef}
use Rattle.core_types.specs.declared.types.FuncType.{FuncType}
use Rattle.core_types.specs.declared.types.OperandType.{OperandType}
use Rattle.core_types.specs.declared.types.OperandType.TheVariants.{Known}
use Rattle.core_types.specs.declared.types.RefType.{RefType}
use Rattle.core_types.specs.declared.types.RefType.TheVariants as ref
use Rattle.core_types.specs.declared.types.ValType.{ValType}
use Rattle.core_types.specs.declared.types.ValType.TheVariants as ty
use Rattle.meaning.specs.execution.Configurations.{Frame}
use Rattle.meaning.specs.execution.Costs.{instruction_cost}
use Rattle.meaning.specs.execution.Effects.{Effect, Done, null_flag, parametric_effect, reference_effect, select_operand}
use Rattle.meaning.specs.execution.Store.{Store, instance_of}
use Rattle.meaning.specs.execution.Values.{null_of}
use Rattle.meaning.specs.soundness.Values.{ValueHasType, ValuesHaveTypes}
use Rattle.meaning.specs.validation.Instructions.{HasFuncType, known, parametric_rule, reference_rule}
use Rattle.meaning.specs.validation.Types.{function_type, reference_type}
use Rattle.soundness.specs.Configurations.{FrameHasPlace}
use Rattle.soundness.specs.Places.{Place, context_at}
use Rattle.soundness.specs.Stores.{StoreIsValid}
use Rattle.soundness.proofs.Effects.{EffectIsGood, stays}
use Rattle.soundness.proofs.Extension.{instance-valid, types-found}
use Rattle.soundness.proofs.Operands.{i32-on-top, value-on-top}
use Rattle.soundness.proofs.Values.{default-typed}

module _ {A : Type 0} (a b : ℕ) (x y : A) where
  pub if-below : a < b → (if nat_lt a b then x else y) ≡ x
  if-below h = ap (λ (t : Bool). if t then x else y) (lt-ltb a b h)

-- An instruction of this type works on all values of its parameters, whatever is below them.
abbrev pub WorksAs : Store → Place → FuncType → (List Val → Effect) → Type 0
WorksAs store place s e = (values : List Val) (below : List ValType) → ValuesHaveTypes store values (reverse s.params ++ below)
    → EffectIsGood store place (reverse s.results ++ below) (e values)

-- An instruction that takes known operands works as one of a type.
abbrev pub Works : Store → Place → (operands results : List OperandType) → (List Val → Effect) → Type 0
Works store place operands results e = (given : List ValType) → operands ≡ known given → (s : FuncType) × HasFuncType s operands results × WorksAs store place s e

module _ (store : Store) (valid : StoreIsValid store) (place : Place) (frame : Frame) (own : FrameHasPlace store frame place) where
  good : (cost : ℕ) (values : List Val) (stack : List ValType) → ValuesHaveTypes store values stack → EffectIsGood store place stack (Done cost store frame.locals values)
  good cost values stack typed = stays store valid place frame own cost values stack typed

  -- ---- parametric instructions

  pub selects : (t : ValType) → WorksAs store place (function_type (t ∷ t ∷ ty.I32 ∷ []) (t ∷ [])) (select_operand store frame)
  selects t values below typed =
      let (n, first, is, fits, more) = i32-on-top store values (t ∷ t ∷ below) typed in
      let (b, second, is_b, b_typed, others) = value-on-top store first (t ∷ below) t more in
      let (a, rest, is_a, a_typed, left) = value-on-top store second below t others in
      rw (is, is_b, is_a) (by n a b rest a_typed b_typed left)
    where
      by : (n : ℕ) (a b : Val) (rest : List Val) → ValueHasType store a t → ValueHasType store b t → ValuesHaveTypes store rest below
          → EffectIsGood store place (t ∷ below) (select_operand store frame (I32 n ∷ b ∷ a ∷ rest))
      by zero a b rest a_typed b_typed left = good instruction_cost (b ∷ rest) (t ∷ below) (b_typed, left)
      by (suc n) a b rest a_typed b_typed left = good instruction_cost (a ∷ rest) (t ∷ below) (a_typed, left)

  drops : (t : ValType) → WorksAs store place (function_type (t ∷ []) []) (parametric_effect store frame DropOperand)
  drops t values below typed =
      let (v, rest, is, v_typed, left) = value-on-top store values below t typed in
      rw is (good instruction_cost rest below left)

  pub parametric-works : (op : ParametricOp) (operands results : List OperandType) → parametric_rule op operands results → Works store place operands results (parametric_effect store frame op)
  parametric-works DropOperand operands results (t, takes, gives) [] is = absurd cc
  parametric-works DropOperand operands results (t, takes, gives) (u ∷ given) is =
      let first : t ≡ Known u = cc in
      (function_type (u ∷ []) [], (takes ∙ ap (λ (o : OperandType). o ∷ []) first, gives), drops u)
  parametric-works Select operands results (t, numeric, takes, gives) [] is = absurd cc
  parametric-works Select operands results (t, numeric, takes, gives) (u ∷ given) is =
      let first : t ≡ Known u = cc in (
        function_type (u ∷ u ∷ ty.I32 ∷ []) (u ∷ []),
        (takes ∙ ap (λ (o : OperandType). o ∷ o ∷ Known ty.I32 ∷ []) first, gives ∙ ap (λ (o : OperandType). o ∷ []) first),
        selects u,
      )

  -- ---- references

  is-null-works : (t : RefType) → WorksAs store place (function_type (reference_type t ∷ []) (ty.I32 ∷ [])) (reference_effect store frame reference.IsNull)
  is-null-works t values below typed =
      let (v, rest, is, v_typed, left) = value-on-top store values below (reference_type t) typed in
      rw is (by t v v_typed rest left)
    where
      flag : (o : Option ℕ) → null_flag o < 2 ^ 32
      flag None = omega (arith)
      flag (Some n) = omega (arith)

      by : (t : RefType) (v : Val) → ValueHasType store v (reference_type t) → (rest : List Val) → ValuesHaveTypes store rest below
          → EffectIsGood store place (ty.I32 ∷ below) (reference_effect store frame reference.IsNull (v ∷ rest))
      by ref.FuncRef (I32 n) typed rest left = absurd cc
      by ref.FuncRef (I64 n) typed rest left = absurd cc
      by ref.FuncRef (FuncRef a) typed rest left = good instruction_cost (I32 (null_flag a) ∷ rest) (ty.I32 ∷ below) ((refl, flag a), left)
      by ref.FuncRef (ExternRef x) typed rest left = absurd cc
      by ref.ExternRef (I32 n) typed rest left = absurd cc
      by ref.ExternRef (I64 n) typed rest left = absurd cc
      by ref.ExternRef (FuncRef a) typed rest left = absurd cc
      by ref.ExternRef (ExternRef x) typed rest left = good instruction_cost (I32 (null_flag x) ∷ rest) (ty.I32 ∷ below) ((refl, flag x), left)

  pub reference-works : (op : ReferenceOp) (operands results : List OperandType) → reference_rule (context_at store place) op operands results
      → Works store place operands results (reference_effect store frame op)
  reference-works (reference.Null t) operands results type given is = (
    function_type [] (reference_type t ∷ []),
    type,
    λ values below typed. good instruction_cost (null_of t ∷ values) (reference_type t ∷ below) (default-typed store (reference_type t), typed),
  )
  reference-works reference.IsNull operands results (t, type) given is =
      (function_type (reference_type t ∷ []) (ty.I32 ∷ []), type, is-null-works t)
  reference-works (reference.Func x) operands results (f, there, named, type) given is =
      let (address, g, at, found, same) = types-found _ _ store.functions (instance_of store place.instance).functions x f (instance-valid store valid place.instance).functions there in (
        function_type [] (ty.FuncRef ∷ []),
        type,
        λ values below typed. rw (own.0, at) (good instruction_cost (FuncRef (Some address) ∷ values) (ty.FuncRef ∷ below) ((refl, slice_get_within store.functions address g found), typed)),
      )
