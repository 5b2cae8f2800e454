-- Constant expressions, in the terms of the context that they borrow.
use Rattle.std.specs.Prelude.{Bool, ◌≡◌, ◌^◌, ◌<◌, ◌≤◌, ◌⊎◌, ℕ, suc, true, Some, slice_get, List, [], ◌∷◌}
use Rattle.core_types.specs.declared.module.Module.{Module}
use Rattle.core_types.specs.declared.op.BinaryOp.TheVariants.{Add, Sub, Mul}
use Rattle.core_types.specs.declared.op.NumericOp.TheVariants.{Binary}
use Rattle.core_types.specs.declared.op.Op.TheVariants.{Plain}
use Rattle.core_types.specs.declared.op.Op.{Op}
use Rattle.core_types.specs.declared.op.PlainOp.TheVariants.{Numeric, Variable, Reference, I32Const, I64Const}
use Rattle.core_types.specs.declared.op.PlainOp.{PlainOp}
use Rattle.core_types.specs.declared.op.ReferenceOp.TheVariants as reference
use Rattle.core_types.specs.declared.op.ReferenceOp.{ReferenceOp}
use Rattle.core_types.specs.declared.op.VariableOp.TheVariants.{GlobalGet}
use Rattle.core_types.specs.declared.op.VariableOp.{VariableOp}
use Rattle.core_types.specs.declared.types.Mutability.TheVariants.{Const}
use Rattle.core_types.specs.declared.types.ValType.TheVariants.{FuncRef, I32, I64}
use Rattle.core_types.specs.declared.types.ValType.{ValType}
use Rattle.meaning.specs.validation.Instructions.{integer_type}
use Rattle.meaning.specs.validation.Modules.{imported_globals}
use Rattle.meaning.specs.validation.Types.{reference_type}
use Rattle.validator.specs.declared.constants.ConstantContext.{ConstantContext}

unfoldable pub GivesReference : ConstantContext → ReferenceOp → ValType → Type 0
GivesReference context (reference.Null r) t = t ≡ reference_type r
GivesReference context reference.IsNull t = ⊥
GivesReference context (reference.Func x) t =
    (slice_get context.declared.now x ≡ Some true) × (t ≡ FuncRef)

unfoldable pub GivesGlobal : ConstantContext → VariableOp → ValType → Type 0
GivesGlobal context (GlobalGet x) t =
    slice_get context.globals.now x ≡ Some (record { value = t; mutability = Const })
GivesGlobal context op t = ⊥

-- The context borrows the types of the imported globals, and the marks of the functions.
pub record IsConstantContext (m : Module) (marks : List Bool) (context : ConstantContext)
    : Type 0 where
  pub globals : context.globals.now ≡ imported_globals m.imports
  pub declared : context.declared.now ≡ marks

-- The instruction is constant and gives a value of this type.
unfoldable pub GivesConstant : ConstantContext → PlainOp → ValType → Type 0
GivesConstant context (I32Const n) t = (n < 2 ^ 32) × (t ≡ I32)
GivesConstant context (I64Const n) t = (n < 2 ^ 64) × (t ≡ I64)
GivesConstant context (Reference op) t = GivesReference context op t
GivesConstant context (Variable op) t = GivesGlobal context op t
GivesConstant context op t = ⊥

-- The instruction is an operator of constant expressions, which takes two operands of this type and gives one.
unfoldable pub Operates : PlainOp → ValType → Type 0
Operates (Numeric (Binary width Add)) t = integer_type width ≡ t
Operates (Numeric (Binary width Sub)) t = integer_type width ≡ t
Operates (Numeric (Binary width Mul)) t = integer_type width ≡ t
Operates op t = ⊥

-- An instruction leads from that many operands to that many, all of this type.
abbrev pub Leads : ConstantContext → ValType → PlainOp → (before after : ℕ) → Type 0
Leads context t op before after =
    (GivesConstant context op t × (after ≡ suc before)) ⊎
    (Operates op t × (2 ≤ before) × (suc after ≡ before))

-- These instructions lead from that many operands to one.
abbrev pub LeadsToOne : ConstantContext → ValType → (before : ℕ) → List Op → Type 0
LeadsToOne context t before [] = before ≡ 1
LeadsToOne context t before (Plain op ∷ ops) =
    (between : ℕ) × Leads context t op before between × LeadsToOne context t between ops
LeadsToOne context t before (op ∷ ops) = ⊥

-- Constant instructions that lead from no operand to one. An operator takes operands of the type that it gives, so all operands have the
-- type of the last one.
abbrev pub IsConstantIn : ConstantContext → List Op → ValType → Type 0
IsConstantIn context ops t = LeadsToOne context t 0 ops
