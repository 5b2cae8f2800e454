-- Control frames: their labels, and where they begin and end.
use Rattle.std.specs.Prelude.{List, Option, Some, [], false, map, reverse, slice_get, take, true, ℕ, ◌++◌, ◌∷◌, ◌≡◌}
use Rattle.core_types.specs.declared.op.BlockType.{BlockType}
use Rattle.core_types.specs.declared.op.Op.TheVariants as op
use Rattle.core_types.specs.declared.op.Op.{Op}
use Rattle.core_types.specs.declared.types.FuncType.{FuncType}
use Rattle.core_types.specs.declared.types.OperandType.{OperandType}
use Rattle.core_types.specs.declared.types.ValType.TheVariants.{I32}
use Rattle.core_types.specs.declared.types.ValType.{ValType}
use Rattle.meaning.specs.validation.Context.{Context}
use Rattle.meaning.specs.validation.Instructions.{known, AllFit}
use Rattle.meaning.specs.validation.Types.{function_type}
use Rattle.validator.specs.declared.control_frames.ControlFrame.{ControlFrame}
use Rattle.validator.specs.declared.control_frames.FrameKind.TheVariants.{Function, Block, Loop, If, Else}
use Rattle.validator.specs.declared.control_frames.FrameKind.{FrameKind}
use Rattle.validator.specs.declared.control_frames.Stacks.{Stacks}

-- The types of a frame's label.
abbrev pub label_by : FrameKind → List ValType → List ValType → List ValType
label_by Function start_types end_types = end_types
label_by Block start_types end_types = end_types
label_by Loop start_types end_types = start_types
label_by If start_types end_types = end_types
label_by Else start_types end_types = end_types

abbrev pub label_of : ControlFrame → List ValType
label_of l = label_by l.kind l.start_types.now l.end_types.now

-- An if takes an i32 on top of the operands of its bodies.
abbrev pub condition_by : FrameKind → List ValType
condition_by Function = []
condition_by Block = []
condition_by Loop = []
condition_by If = I32 ∷ []
condition_by Else = I32 ∷ []

-- The operands that the instruction of a frame takes from the frame around it.
abbrev pub hand_of : ControlFrame → List OperandType
hand_of l = known (l.start_types.now ++ condition_by l.kind)

abbrev pub signature_of : ControlFrame → FuncType
signature_of l = function_type l.start_types.now l.end_types.now

-- The context in the innermost of the frames, which come from the inside out.
abbrev pub inside : Context → List ControlFrame → Context
inside context control_stack = record context { labels = map label_of control_stack }

-- The control stack, from the inside out.
abbrev pub control_stack : Stacks → List ControlFrame
control_stack s = s.innermost ∷ reverse s.outer.items

-- The body of a function with these results begins: there is no operand, and no frame except its own.
pub record BeginsBody (s : Stacks) (results : List ValType) : Type 0 where
  pub kind : s.innermost.kind ≡ Function
  pub start_types : s.innermost.start_types.now ≡ []
  pub end_types : s.innermost.end_types.now ≡ results
  pub height : s.innermost.height ≡ 0
  pub reachable : s.innermost.unreachable ≡ false
  pub outer : s.outer.items ≡ []
  pub operands : s.operands ≡ []

-- The operation begins a body of this kind and block type.
abbrev pub IsMark : FrameKind → BlockType → Op → Type 0
IsMark Function t o = ⊥
IsMark Block t o = o ≡ op.Block t
IsMark Loop t o = o ≡ op.Loop t
IsMark If t o = o ≡ op.If t
IsMark Else t o = ⊥

-- The same frame, in which what follows is unreachable.
abbrev pub unreachable_from_here : ControlFrame → ControlFrame
unreachable_from_here l = record l { unreachable = true }

-- The innermost frame becomes unreachable, and loses its operands.
pub record BecomesUnreachable (old new : Stacks) : Type 0 where
  pub operands : new.operands ≡ take old.innermost.height old.operands
  pub innermost : new.innermost ≡ unreachable_from_here old.innermost
  pub outer : new.outer ≡ old.outer

-- The frame and the operands at its start are pushed.
pub record PushesFrame (old : Stacks) (frame : ControlFrame) (new : Stacks) : Type 0 where
  pub operands : new.operands ≡ old.operands ++ known frame.start_types.now
  pub innermost : new.innermost ≡ frame
  pub outer : new.outer.items ≡ old.outer.items ++ old.innermost ∷ []

-- The frame of an else, instead of that of its if.
abbrev pub otherwise : ControlFrame → ControlFrame
otherwise l = record l { kind = Else; unreachable = false }

-- The types of the label of this index, if there is one.
abbrev pub IsLabelAt : ControlFrame → List ControlFrame → ℕ → Option (List ValType) → Type 0
IsLabelAt innermost outer n found = slice_get (map label_of (innermost ∷ reverse outer)) n ≡ found

-- The operands fit the label of this index.
abbrev pub FitsLabelAt : ControlFrame → List ControlFrame → List OperandType → ℕ → Type 0
FitsLabelAt innermost outer given n =
    (types : List ValType) × IsLabelAt innermost outer n (Some types) × AllFit given (known types)

-- An if that has no else gives what it takes.
abbrev pub NeedsNoElse : FrameKind → List ValType → List ValType → Type 0
NeedsNoElse Function start_types end_types = Unit {0}
NeedsNoElse Block start_types end_types = Unit {0}
NeedsNoElse Loop start_types end_types = Unit {0}
NeedsNoElse If start_types end_types = start_types ≡ end_types
NeedsNoElse Else start_types end_types = Unit {0}

abbrev pub FrameNeedsNoElse : ControlFrame → Type 0
FrameNeedsNoElse frame = NeedsNoElse frame.kind frame.start_types.now frame.end_types.now
