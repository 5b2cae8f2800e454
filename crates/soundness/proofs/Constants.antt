-- The values of constant expressions exist, and have their types.
use Rattle.std.proofs.Common.{◌≡◌, ℕ, suc, ◌<◌, ◌^◌, List, [], ◌∷◌, reverse, Some, refl, ap, subst, sym, ◌∙◌, slice_get, arith}
use Rattle.std.specs.Prelude.{Option, Ok, Result, length}
use Rattle.std.specs.List.{All}
use Rattle.std.proofs.lemmas.List.{reverse-reverse}
use Rattle.core_types.specs.declared.op.BinaryOp.{BinaryOp}
use Rattle.core_types.specs.declared.op.BinaryOp.TheVariants.{Add, Sub, Mul, DivS, DivU, RemS, RemU, And, Or, Xor, Shl, ShrS, ShrU, Rotl, Rotr}
use Rattle.core_types.specs.declared.op.NumericOp.{NumericOp}
use Rattle.core_types.specs.declared.op.NumericOp.TheVariants.{Binary, Compare, Convert, Eqz, Unary}
use Rattle.core_types.specs.declared.op.Op.{Op}
use Rattle.core_types.specs.declared.op.Op.TheVariants.{Plain, Block, Loop, If}
use Rattle.core_types.specs.declared.op.PlainOp.{PlainOp}
use Rattle.core_types.specs.declared.op.PlainOp.TheVariants.{Control, BrTable, Reference, Parametric, SelectTyped, Variable, Table, Memory, Numeric, I32Const, I64Const}
use Rattle.core_types.specs.declared.op.ReferenceOp.TheVariants as reference
use Rattle.core_types.specs.declared.op.VariableOp.TheVariants.{LocalGet, LocalSet, LocalTee, GlobalGet, GlobalSet}
use Rattle.core_types.specs.declared.op.Width.TheVariants.{W32, W64}
use Rattle.core_types.specs.declared.module.Module.{Module}
use Rattle.core_types.specs.declared.outcome.Trap.{Trap}
use Rattle.core_types.specs.declared.outcome.Val.{Val}
use Rattle.core_types.specs.declared.outcome.Val.TheVariants.{I32, I64, FuncRef}
use Rattle.core_types.specs.declared.types.FuncType.{FuncType}
use Rattle.core_types.specs.declared.types.GlobalType.{GlobalType}
use Rattle.core_types.specs.declared.types.OperandType.{OperandType}
use Rattle.core_types.specs.declared.types.ValType.{ValType}
use Rattle.core_types.specs.declared.types.ValType.TheVariants as ty
use Rattle.meaning.specs.structure.Bodies.{Body, Empty, Then, Nested, IfElse, BlockKind, LoopKind, IfKind, writing}
use Rattle.meaning.specs.execution.Modules.{constant_operands, constant_step, constant_value, only, operate, with_integer}
use Rattle.meaning.specs.execution.Numerics.{binary_operator}
use Rattle.meaning.specs.execution.Store.{GlobalInstance, ModuleInstance, Store, item_at}
use Rattle.meaning.specs.execution.Values.{null_of}
use Rattle.meaning.specs.soundness.Values.{ValueHasType, ValuesHaveTypes}
use Rattle.meaning.specs.validation.Instructions.{TakesAndGives, HasFuncType, HasType, Rule, known}
use Rattle.meaning.specs.validation.Modules.{IsConstant, IsConstantExpression, IsConstantOperator, constant_context, functions_of, imported_globals}
use Rattle.meaning.specs.validation.Types.{function_type, reference_type}
use Rattle.meaning.proofs.lemmas.OperatorRanges.{binary_range}
use Rattle.soundness.proofs.Operands.{i32-on-top, i64-on-top, known-fits, known-same, operands-on-top}
use Rattle.soundness.proofs.Values.{default-typed}

-- The operators of constant expressions give integers of their width.
operates-32 : (op : BinaryOp) (a b : ℕ) → IsConstantOperator (Binary W32 op) → a < 2 ^ 32 → b < 2 ^ 32 → (n : ℕ) × (binary_operator 32 op a b ≡ Ok n) × (n < 2 ^ 32)
operates-32 Add a b holds first second = (_, refl, binary_range 32 Add a b (omega (arith)) first second)
operates-32 Sub a b holds first second = (_, refl, binary_range 32 Sub a b (omega (arith)) first second)
operates-32 Mul a b holds first second = (_, refl, binary_range 32 Mul a b (omega (arith)) first second)
operates-32 DivS a b holds first second = absurd holds
operates-32 DivU a b holds first second = absurd holds
operates-32 RemS a b holds first second = absurd holds
operates-32 RemU a b holds first second = absurd holds
operates-32 And a b holds first second = absurd holds
operates-32 Or a b holds first second = absurd holds
operates-32 Xor a b holds first second = absurd holds
operates-32 Shl a b holds first second = absurd holds
operates-32 ShrS a b holds first second = absurd holds
operates-32 ShrU a b holds first second = absurd holds
operates-32 Rotl a b holds first second = absurd holds
operates-32 Rotr a b holds first second = absurd holds

operates-64 : (op : BinaryOp) (a b : ℕ) → IsConstantOperator (Binary W64 op) → a < 2 ^ 64 → b < 2 ^ 64 → (n : ℕ) × (binary_operator 64 op a b ≡ Ok n) × (n < 2 ^ 64)
operates-64 Add a b holds first second = (_, refl, binary_range 64 Add a b (omega (arith)) first second)
operates-64 Sub a b holds first second = (_, refl, binary_range 64 Sub a b (omega (arith)) first second)
operates-64 Mul a b holds first second = (_, refl, binary_range 64 Mul a b (omega (arith)) first second)
operates-64 DivS a b holds first second = absurd holds
operates-64 DivU a b holds first second = absurd holds
operates-64 RemS a b holds first second = absurd holds
operates-64 RemU a b holds first second = absurd holds
operates-64 And a b holds first second = absurd holds
operates-64 Or a b holds first second = absurd holds
operates-64 Xor a b holds first second = absurd holds
operates-64 Shl a b holds first second = absurd holds
operates-64 ShrS a b holds first second = absurd holds
operates-64 ShrU a b holds first second = absurd holds
operates-64 Rotl a b holds first second = absurd holds
operates-64 Rotr a b holds first second = absurd holds

module _ (old new : Store) (m : Module) (i : ModuleInstance)
    (functions_there : (x : ℕ) (f : FuncType) → slice_get (functions_of m) x ≡ Some f → (a : ℕ) × (slice_get i.functions x ≡ Some a) × (a < length new.functions))
    (globals_there : (x : ℕ) (t : GlobalType) → slice_get (imported_globals m.imports) x ≡ Some t
    → (g : GlobalInstance) × (item_at old.globals i.globals x ≡ Some g) × ValueHasType new g.value t.value) where
  -- Constant instructions lead from typed operands to typed ones.
  abbrev Leads : (after : Option (List Val)) (types : List OperandType) → Type 0
  Leads after types = (stack : List ValType) × (operands : List Val) × (after ≡ Some operands) × ValuesHaveTypes new operands stack × (types ≡ known (reverse stack))

  module _ (stack : List ValType) (operands : List Val) (typed : ValuesHaveTypes new operands stack) (takes gives between : List OperandType)
      (frame : TakesAndGives takes gives (known (reverse stack)) between) where
    -- A value is pushed.
    puts : (v : Val) (t : ValType) → ValueHasType new v t → HasFuncType (function_type [] (t ∷ [])) takes gives → Leads (Some (v ∷ operands)) between
    puts v t v_typed type =
        let (below, stack_is, between_is) = operands-on-top stack (function_type [] (t ∷ [])) takes gives between type frame in
        (t ∷ stack, v ∷ operands, refl, (v_typed, typed), between_is ∙ ap (λ (z : List ValType). known (reverse (t ∷ z))) (sym stack_is))

    operator-32 : (op : BinaryOp) → IsConstantOperator (Binary W32 op) → HasFuncType (function_type (ty.I32 ∷ ty.I32 ∷ []) (ty.I32 ∷ [])) takes gives → Leads (operate (Binary W32 op) operands) between
    operator-32 op holds type =
        let (below, stack_is, between_is) = operands-on-top stack (function_type (ty.I32 ∷ ty.I32 ∷ []) (ty.I32 ∷ [])) takes gives between type frame in
        let (b, rest, is, b_fits, others) = i32-on-top new operands (ty.I32 ∷ below) (subst (ValuesHaveTypes new operands) stack_is typed) in
        let (a, rest', is', a_fits, others') = i32-on-top new rest below others in
        let (n, gives_n, n_fits) = operates-32 op a b holds a_fits b_fits in
        let leads : operate (Binary W32 op) operands ≡ Some (I32 n ∷ rest') =
        ap (operate (Binary W32 op)) is ∙ ap (λ (vs : List Val). operate (Binary W32 op) (I32 b ∷ vs)) is' ∙ ap (λ (r : Result ℕ Trap). with_integer I32 r rest') gives_n in
        (ty.I32 ∷ below, I32 n ∷ rest', leads, ((refl, n_fits), others'), between_is)

    operator-64 : (op : BinaryOp) → IsConstantOperator (Binary W64 op) → HasFuncType (function_type (ty.I64 ∷ ty.I64 ∷ []) (ty.I64 ∷ [])) takes gives → Leads (operate (Binary W64 op) operands) between
    operator-64 op holds type =
        let (below, stack_is, between_is) = operands-on-top stack (function_type (ty.I64 ∷ ty.I64 ∷ []) (ty.I64 ∷ [])) takes gives between type frame in
        let (b, rest, is, b_fits, others) = i64-on-top new operands (ty.I64 ∷ below) (subst (ValuesHaveTypes new operands) stack_is typed) in
        let (a, rest', is', a_fits, others') = i64-on-top new rest below others in
        let (n, gives_n, n_fits) = operates-64 op a b holds a_fits b_fits in
        let leads : operate (Binary W64 op) operands ≡ Some (I64 n ∷ rest') =
        ap (operate (Binary W64 op)) is ∙ ap (λ (vs : List Val). operate (Binary W64 op) (I64 b ∷ vs)) is' ∙ ap (λ (r : Result ℕ Trap). with_integer I64 r rest') gives_n in
        (ty.I64 ∷ below, I64 n ∷ rest', leads, ((refl, n_fits), others'), between_is)

    operator : (op : NumericOp) → IsConstantOperator op → Rule (constant_context m) (Numeric op) takes gives → Leads (operate op operands) between
    operator (Binary W32 op) holds type = operator-32 op holds type
    operator (Binary W64 op) holds type = operator-64 op holds type
    operator (Eqz width) holds type = absurd holds
    operator (Compare width op) holds type = absurd holds
    operator (Unary width op) holds type = absurd holds
    operator (Convert op) holds type = absurd holds

    step : (op : PlainOp) → IsConstant (constant_context m) (Plain op) → Rule (constant_context m) op takes gives → Leads (constant_step old i op operands) between
    step (I32Const n) holds (fits, type) = puts (I32 n) ty.I32 (refl, fits) type
    step (I64Const n) holds (fits, type) = puts (I64 n) ty.I64 (refl, fits) type
    step (Reference (reference.Null r)) holds type = puts (null_of r) (reference_type r) (default-typed new (reference_type r)) type
    step (Reference reference.IsNull) holds rule = absurd holds
    step (Reference (reference.Func x)) holds (f, there, named, type) =
        let (a, at, inside) = functions_there x f there in
        rw at (puts (FuncRef (Some a)) ty.FuncRef (refl, inside) type)
    step (Variable (GlobalGet x)) holds (g, there, type) =
        let (held, at, value_typed) = globals_there x g there in
        rw at (puts held.value g.value value_typed type)
    step (Variable (LocalGet x)) holds rule = absurd holds
    step (Variable (LocalSet x)) holds rule = absurd holds
    step (Variable (LocalTee x)) holds rule = absurd holds
    step (Variable (GlobalSet x)) holds rule = absurd holds
    step (Control op) holds rule = absurd holds
    step (BrTable table) holds rule = absurd holds
    step (Parametric op) holds rule = absurd holds
    step (SelectTyped types) holds rule = absurd holds
    step (Table op) holds rule = absurd holds
    step (Memory op) holds rule = absurd holds
    step (Numeric op) holds rule = operator op holds rule

  steps : (body : Body) (stack : List ValType) (operands : List Val) (after : List OperandType) → All (IsConstant (constant_context m)) (writing body)
      → HasType (constant_context m) body (known (reverse stack)) after
      → ValuesHaveTypes new operands stack → Leads (constant_operands old i (writing body) operands) after
  steps Empty stack operands after all fits typed = (stack, operands, refl, typed, known-fits (reverse stack) after fits)
  steps (Then op rest) stack operands after all (takes, gives, between, rule, frame, behind) typed =
      let (stack', operands', is, typed', between_is) = step stack operands typed takes gives between frame op (all 0 (Plain op) (omega (arith))) rule in
      rw is (steps rest stack' operands' after (λ k d inside. all (suc k) d (omega (arith, inside)))
      (subst (λ (z : List OperandType). HasType (constant_context m) rest z after) between_is behind) typed')
  steps (Nested BlockKind type inner rest) stack operands after all behind typed = absurd (all 0 (Block type) (omega (arith)))
  steps (Nested LoopKind type inner rest) stack operands after all behind typed = absurd (all 0 (Loop type) (omega (arith)))
  steps (Nested IfKind type inner rest) stack operands after all behind typed = absurd (all 0 (If type) (omega (arith)))
  steps (IfElse type inner other rest) stack operands after all behind typed = absurd (all 0 (If type) (omega (arith)))

  one-left : (t : ValType) (after : Option (List Val)) → Leads after (known (t ∷ [])) → (v : Val) × (only after ≡ Some v) × ValueHasType new v t
  one-left t after (stack, operands, is, typed, types_are) =
      let stack_is : t ∷ [] ≡ reverse stack = known-same (t ∷ []) (reverse stack) types_are in
      rw is (single operands (subst (ValuesHaveTypes new operands) (sym (reverse-reverse stack) ∙ ap (λ (z : List ValType). reverse z) (sym stack_is)) typed))
    where
      single : (vs : List Val) → ValuesHaveTypes new vs (t ∷ []) → (v : Val) × (only (Some vs) ≡ Some v) × ValueHasType new v t
      single [] typed = absurd typed
      single (v ∷ []) typed = (v, refl, typed.0)
      single (v ∷ w ∷ vs) typed = absurd typed.1

  -- A constant expression has a value of its type.
  pub constant-found : (ops : List Op) (t : ValType) → IsConstantExpression (constant_context m) ops t → (v : Val) × (constant_value old i ops ≡ Some v) × ValueHasType new v t
  constant-found ops t expression =
      let all = subst (λ (z : List Op). All (IsConstant (constant_context m)) z) expression.written expression.constant in
      rw expression.written (one-left t (constant_operands old i (writing expression.body) []) (steps expression.body [] [] (known (t ∷ [])) all expression.typed tt))

  pub constant-typed : (ops : List Op) (t : ValType) (v : Val) → IsConstantExpression (constant_context m) ops t → constant_value old i ops ≡ Some v → ValueHasType new v t
  constant-typed ops t v expression is =
      let (found, there, typed) = constant-found ops t expression in
      let same : found ≡ v = cc in
      subst (λ (w : Val). ValueHasType new w t) same typed
