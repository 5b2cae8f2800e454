-- The effect of one step on the stacks.
use Rattle.std.specs.Prelude.{◌≡◌, ◌⊎◌, ℕ, List, [], ◌∷◌, ◌++◌, None, Option, Result, IfErr, OnOk, length, map}
use Rattle.core_types.specs.declared.op.BlockType.{BlockType}
use Rattle.core_types.specs.declared.op.ControlOp.{ControlOp}
use Rattle.core_types.specs.declared.op.ControlOp.TheVariants.{Call, CallIndirect, ReturnCall, ReturnCallIndirect}
use Rattle.core_types.specs.declared.op.Op.{Op}
use Rattle.core_types.specs.declared.op.Op.TheVariants.{Plain}
use Rattle.core_types.specs.declared.op.PlainOp.{PlainOp}
use Rattle.core_types.specs.declared.op.PlainOp.TheVariants.{Control}
use Rattle.core_types.specs.declared.types.FuncType.{FuncType}
use Rattle.core_types.specs.declared.types.OperandType.{OperandType}
use Rattle.core_types.specs.reading.Bodies.{operations_in}
use Rattle.binary.specs.Bodies.{Passes, Place}
use Rattle.meaning.specs.validation.Context.{Context}
use Rattle.meaning.specs.validation.Instructions.{AllFit, known}
use Rattle.validator.specs.declared.context.BodyContext.{BodyContext}
use Rattle.validator.specs.declared.control_frames.FrameKind.{FrameKind}
use Rattle.validator.specs.declared.control_frames.Stacks.{Stacks}
use Rattle.validator.specs.declared.errors.Fault.{Fault}
use Rattle.validator.specs.declared.types.InstructionType.{InstructionType}
use Rattle.validator.specs.Completeness.{TypesRest}
use Rattle.validator.specs.Contexts.{Describes}
use Rattle.validator.specs.ControlFrames.{IsMark, control_stack, label_of}
use Rattle.validator.specs.Errors.{OnInvalid}
use Rattle.validator.specs.InstructionTypes.{HasTypeOf, IsTypeOf}
use Rattle.validator.specs.Operands.{Covers, Refuses, Takes}
use Rattle.validator.specs.Soundness.{TypesRead}

-- No typing has operands for an instruction of this type.
abbrev pub RefusesType : Stacks → FuncType → Type 0
RefusesType old t =
    Refuses old.innermost.unreachable old.innermost.height old.operands (known t.params)

-- What was read in the innermost frame is whole: its end types can be taken, and no operand is left.
pub record Closes (old : Stacks) (new : List OperandType) : Type 0 where
  pub given : List OperandType
  pub takes : Takes old.innermost.unreachable old.innermost.height old.operands given new
  pub fits : AllFit given (known old.innermost.end_types.now)
  pub dry : length new ≡ old.innermost.height

-- No typing has exactly the end types of the innermost frame.
pub record NeverCloses (old : Stacks) : Type 0 where
  pub at : (under own theirs : List OperandType) → old.operands ≡ under ++ own
      → length under ≡ old.innermost.height → Covers old.innermost.unreachable own theirs
      → AllFit theirs (known old.innermost.end_types.now) → ⊥

-- The result of taking the results of the innermost frame.
abbrev pub Finishes : Stacks → List OperandType → Result (Unit {0}) Fault → Type 0
Finishes old new result = OnOk result (Closes old new) × IfErr result (OnInvalid (NeverCloses old))

-- What the stacks state of the operations that were read still holds with this operation.
pub record KeepsRead (lent : BodyContext) (old new : Stacks) (o : Op) : Type 0 where
  pub keeps : (context : Context) → Describes lent context → (read : List Op)
      → TypesRead context old read → TypesRead context new (read ++ o ∷ [])

-- Whatever was possible with the operation next is possible after it.
pub record KeepsRest (lent : BodyContext) (old new : Stacks) (o : Op) : Type 0 where
  pub on : (context : Context) → Describes lent context → (ops : List Op)
      → TypesRest context old (o ∷ ops) → TypesRest context new ops

-- The step reads the operation: what was read stays typed, and what was possible stays possible.
pub record StepsTo (lent : BodyContext) (old new : Stacks) (o : Op) : Type 0 where
  pub sound : KeepsRead lent old new o
  pub complete : KeepsRest lent old new o

-- Nothing is possible with the operation next.
pub record CannotBeNext (lent : BodyContext) (old : Stacks) (o : Op) : Type 0 where
  pub at : (context : Context) → Describes lent context → (ops : List Op)
      → TypesRest context old (o ∷ ops) → ⊥

-- The result of a step over the operation, in this context.
abbrev pub Steps : BodyContext → Stacks → Stacks → Op → Result (Unit {0}) Fault → Type 0
Steps lent old new o result =
    OnOk result (StepsTo lent old new o)
    × IfErr result (OnInvalid (CannotBeNext lent old o))

-- Neither does any operation come next that these bytes encode, nor one that is possible.
abbrev pub IsRefusedNext : BodyContext → Stacks → Place → Type 0
IsRefusedNext lent old here =
    (operations_in here.0 ≡ None)
    ⊎ ((o : Op) × (behind : Place) × Passes here o behind × CannotBeNext lent old o)

-- The result of a step over the operation, in any context.
abbrev pub StepsAnywhere : Stacks → Stacks → Op → Result (Unit {0}) Fault → Type 0
StepsAnywhere old new o result = (lent : BodyContext) → Steps lent old new o result

-- The same over an instruction without a body.
abbrev pub StepsOver : Stacks → Stacks → PlainOp → Result (Unit {0}) Fault → Type 0
StepsOver old new o result = StepsAnywhere old new (Plain o) result

-- The same for each operation that begins a body of this kind and block type.
abbrev pub StepsInto : BodyContext → Stacks → Stacks → FrameKind → BlockType
    → Result (Unit {0}) Fault → Type 0
StepsInto lent old new kind type result =
    (o : Op) → IsMark kind type o → Steps lent old new o result

-- The result of a step over any instruction that has this type with these stacks.
abbrev pub StepsByType : Stacks → Stacks → FuncType → Result (Unit {0}) Fault → Type 0
StepsByType old new t result =
    (lent : BodyContext) (o : PlainOp) → IsTypeOf lent (map label_of (control_stack old)) o t
    → Steps lent old new (Plain o) result

-- The same for any instruction whose type was looked up.
abbrev pub StepsByFound : Stacks → Stacks → Option InstructionType → Result (Unit {0}) Fault
    → Type 0
StepsByFound old new found result =
    (lent : BodyContext) (o : PlainOp) → HasTypeOf lent o found
    → Steps lent old new (Plain o) result

-- Both call the same function, or through the same table and type, and the second one does so as a tail call.
abbrev pub IsTailCallOf : ControlOp → ControlOp → Type 0
IsTailCallOf call tail =
    ((x : ℕ) × (call ≡ Call x) × (tail ≡ ReturnCall x))
    ⊎ ((type x : ℕ) × (call ≡ CallIndirect type x) × (tail ≡ ReturnCallIndirect type x))

-- The result of a step over the tail call of any call whose type was looked up.
abbrev pub StepsByTailCall : BodyContext → Stacks → Stacks → Option InstructionType
    → Result (Unit {0}) Fault → Type 0
StepsByTailCall lent old new found result =
    (call tail : ControlOp) → IsTailCallOf call tail → HasTypeOf lent (Control call) found
    → Steps lent old new (Plain (Control tail)) result
