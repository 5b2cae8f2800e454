use Rattle.std.proofs.Common.{◌≡◌, ℕ, List, [], ◌∷◌, ap, refl}
use Rattle.std.specs.Prelude.{Option, Some, None, Result, Ok, Err, option_map, slice_get, unwrap_or}
use Rattle.core_types.specs.declared.op.NumericOp.{NumericOp}
use Rattle.core_types.specs.declared.op.NumericOp.TheVariants.{Binary, Compare, Convert, Eqz, Unary}
use Rattle.core_types.specs.declared.op.Op.TheVariants.{Plain}
use Rattle.core_types.specs.declared.op.PlainOp.{PlainOp}
use Rattle.core_types.specs.declared.op.PlainOp.TheVariants.{BrTable, Control, I32Const, I64Const, Memory, Numeric, Parametric, Reference, SelectTyped, Table, Variable}
use Rattle.core_types.specs.declared.op.ReferenceOp.TheVariants.{Func, IsNull, Null}
use Rattle.core_types.specs.declared.op.VariableOp.TheVariants.{GlobalGet, GlobalSet, LocalGet, LocalSet, LocalTee}
use Rattle.core_types.specs.declared.op.Width.TheVariants.{W32, W64}
use Rattle.core_types.specs.declared.outcome.Trap.{Trap}
use Rattle.core_types.specs.declared.outcome.Val.{Val}
use Rattle.core_types.specs.declared.outcome.Val.TheVariants.{ExternRef, FuncRef, I32, I64}
use Rattle.meaning.specs.execution.Configurations.{Frame}
use Rattle.meaning.specs.execution.Costs.{instruction_cost}
use Rattle.meaning.specs.execution.Effects.{Done, Effect, effect, get_global, numeric_effect, push_result, refer_to_function}
use Rattle.meaning.specs.execution.Modules.{constant, constant_step, constant_value, operate, with_integer}
use Rattle.meaning.specs.execution.Numerics.{binary_operator}
use Rattle.meaning.specs.execution.Store.{GlobalInstance, ModuleInstance, Store, instance_of, item_of, locate, locate_at}
use Rattle.meaning.proofs.execution.constants_are_values.Goals as goal

module _ (store : Store) (frame : Frame) (values after : List Val) where
  abbrev Left : Effect
  Left = Done instruction_cost store frame.locals after

  left : (vs : List Val) → Some vs ≡ Some after → Done instruction_cost store frame.locals vs ≡ Left
  left vs is = ap (λ (o : Option (List Val)). Done instruction_cost store frame.locals (unwrap_or o after)) is

  of_function : (address : Option ℕ) → option_map (λ (v : Val). v ∷ values) (option_map (λ (a : ℕ). FuncRef (Some a)) address) ≡ Some after → refer_to_function store frame address values ≡ Left
  of_function None is = absurd (cc)
  of_function (Some a) is = left (FuncRef (Some a) ∷ values) is

  of_object : (a : ℕ) (g : Option GlobalInstance) → option_map (λ (v : Val). v ∷ values) (option_map (λ (h : GlobalInstance). h.value) g) ≡ Some after
      → get_global store frame (locate_at a g) values ≡ Left
  of_object a None is = absurd (cc)
  of_object a (Some g) is = left (g.value ∷ values) is

  of_global : (address : Option ℕ)
      → option_map (λ (v : Val). v ∷ values) (option_map (λ (g : GlobalInstance). g.value) (item_of store.globals address)) ≡ Some after
      → get_global store frame (locate store.globals address) values ≡ Left
  of_global None is = absurd (cc)
  of_global (Some a) is = of_object a (slice_get store.globals a) is

module _ (store : Store) (frame : Frame) (after : List Val) where
  of_result : (integer : ℕ → Val) (r : Result ℕ Trap) (values : List Val) → with_integer integer r values ≡ Some after → push_result store frame integer r values ≡ Left store frame values after
  of_result integer (Ok n) values is = left store frame values after (integer n ∷ values) is
  of_result integer (Err trap) values is = absurd (cc)

  of_operator : (op : NumericOp) (values : List Val) → operate op values ≡ Some after → numeric_effect store frame op values ≡ Left store frame values after
  of_operator (Binary W32 op) (I32 b ∷ (I32 a ∷ values)) is = of_result I32 (binary_operator 32 op a b) values is
  of_operator (Binary W64 op) (I64 b ∷ (I64 a ∷ values)) is = of_result I64 (binary_operator 64 op a b) values is
  of_operator (Binary W32 op) [] is = absurd (cc)
  of_operator (Binary W32 op) (I32 b ∷ []) is = absurd (cc)
  of_operator (Binary W32 op) (I32 b ∷ (I64 a ∷ values)) is = absurd (cc)
  of_operator (Binary W32 op) (I32 b ∷ (FuncRef a ∷ values)) is = absurd (cc)
  of_operator (Binary W32 op) (I32 b ∷ (ExternRef a ∷ values)) is = absurd (cc)
  of_operator (Binary W32 op) (I64 b ∷ values) is = absurd (cc)
  of_operator (Binary W32 op) (FuncRef b ∷ values) is = absurd (cc)
  of_operator (Binary W32 op) (ExternRef b ∷ values) is = absurd (cc)
  of_operator (Binary W64 op) [] is = absurd (cc)
  of_operator (Binary W64 op) (I64 b ∷ []) is = absurd (cc)
  of_operator (Binary W64 op) (I64 b ∷ (I32 a ∷ values)) is = absurd (cc)
  of_operator (Binary W64 op) (I64 b ∷ (FuncRef a ∷ values)) is = absurd (cc)
  of_operator (Binary W64 op) (I64 b ∷ (ExternRef a ∷ values)) is = absurd (cc)
  of_operator (Binary W64 op) (I32 b ∷ values) is = absurd (cc)
  of_operator (Binary W64 op) (FuncRef b ∷ values) is = absurd (cc)
  of_operator (Binary W64 op) (ExternRef b ∷ values) is = absurd (cc)
  of_operator (Eqz width) values is = absurd (cc)
  of_operator (Compare width op) values is = absurd (cc)
  of_operator (Unary width op) values is = absurd (cc)
  of_operator (Convert op) values is = absurd (cc)

module _ (store : Store) (frame : Frame) (values after : List Val) where
  of_constant : (op : PlainOp) → constant_step store (instance_of store frame.instance) op values ≡ Some after → effect store frame op values ≡ Left store frame values after
  of_constant (I32Const n) is = left store frame values after _ is
  of_constant (I64Const n) is = left store frame values after _ is
  of_constant (Reference (Null t)) is = left store frame values after _ is
  of_constant (Reference IsNull) is = absurd (cc)
  of_constant (Reference (Func x)) is = of_function store frame values after (slice_get (instance_of store frame.instance).functions x) is
  of_constant (Variable (GlobalGet x)) is = of_global store frame values after (slice_get (instance_of store frame.instance).globals x) is
  of_constant (Variable (GlobalSet x)) is = absurd (cc)
  of_constant (Variable (LocalGet x)) is = absurd (cc)
  of_constant (Variable (LocalSet x)) is = absurd (cc)
  of_constant (Variable (LocalTee x)) is = absurd (cc)
  of_constant (Control op) is = absurd (cc)
  of_constant (BrTable table) is = absurd (cc)
  of_constant (Parametric op) is = absurd (cc)
  of_constant (SelectTyped types) is = absurd (cc)
  of_constant (Table op) is = absurd (cc)
  of_constant (Memory op) is = absurd (cc)
  of_constant (Numeric op) is = of_operator store frame after op values is

-- An expression of one constant has its value.
of_one : (store : Store) (i : ModuleInstance) (op : PlainOp) (v : Val) → constant store i op ≡ Some v → constant_value store i (Plain op ∷ []) ≡ Some v
of_one store i (I32Const n) v is = is
of_one store i (I64Const n) v is = is
of_one store i (Reference op) v is = rw is refl
of_one store i (Variable op) v is = rw is refl
of_one store i (Control op) v is = absurd (cc)
of_one store i (BrTable table) v is = absurd (cc)
of_one store i (Parametric op) v is = absurd (cc)
of_one store i (SelectTyped types) v is = absurd (cc)
of_one store i (Table op) v is = absurd (cc)
of_one store i (Memory op) v is = absurd (cc)
of_one store i (Numeric op) v is = absurd (cc)

pub returns-clause-step : goal.returns-clause-step
returns-clause-step c = λ (store : Store) (frame : Frame) (op : PlainOp) (operands after : List Val). of_constant store frame operands after op

pub returns-clause-one : goal.returns-clause-one
returns-clause-one c = of_one
