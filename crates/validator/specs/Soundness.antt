-- What the stacks state of the operations that were read: typed bodies, one within the other, that lead to the operands.
use Rattle.std.specs.Prelude.{◌≡◌, Bool, true, false, List, ◌++◌, length, [], ◌∷◌, Some, reverse}
use Rattle.core_types.specs.declared.op.BlockType.{BlockType}
use Rattle.core_types.specs.declared.op.Op.TheVariants as op
use Rattle.core_types.specs.declared.op.Op.{Op}
use Rattle.core_types.specs.declared.types.FuncType.{FuncType}
use Rattle.core_types.specs.declared.types.OperandType.{OperandType}
use Rattle.core_types.specs.declared.types.ValType.{ValType}
use Rattle.meaning.specs.structure.Bodies.{Body, writing}
use Rattle.meaning.specs.validation.Context.{Context}
use Rattle.meaning.specs.validation.Instructions.{HasType, known}
use Rattle.meaning.specs.validation.Types.{block_type}
use Rattle.validator.specs.declared.context.BodyContext.{BodyContext}
use Rattle.validator.specs.declared.control_frames.ControlFrame.{ControlFrame}
use Rattle.validator.specs.declared.control_frames.FrameKind.TheVariants.{Function, Block, Loop, If, Else}
use Rattle.validator.specs.declared.control_frames.FrameKind.{FrameKind}
use Rattle.validator.specs.declared.control_frames.Stacks.{Stacks}
use Rattle.validator.specs.Contexts.{Describes, IsBodyOf}
use Rattle.validator.specs.ControlFrames.{hand_of, signature_of, inside}

-- The operands that a frame's own operands admit: only these, or these above any others if it is unreachable.
abbrev pub Admits : Bool → List OperandType → List OperandType → Type 0
Admits false own target = target ≡ own
Admits true own target = (any : List OperandType) × (target ≡ any ++ own)

-- The body leads, from the types at its start, to all that the operands admit.
pub record Reaches (context : Context) (body : Body) (start_types : List ValType)
    (unreachable : Bool)
    (own : List OperandType) : Type 0 where
  pub each : (target : List OperandType) → Admits unreachable own target
      → HasType context body (known start_types) target

-- Of the operations that were read, a body was read in the frame, after what came before it. The body leads to the operands of the frame
-- with those in hand. The others are below them.
pub record HereRead (context : Context) (l : ControlFrame) (operands hand : List OperandType)
    (read : List Op) (under : List OperandType) (before : List Op) : Type 0 where
  pub own : List OperandType
  pub body : Body
  pub whole : operands ≡ under ++ own
  pub height : length under ≡ l.height
  pub reaches : Reaches context body l.start_types.now l.unreachable (own ++ hand)
  pub written : read ≡ before ++ writing body

-- What comes before a frame's body: what was read of the frame around it, and the mark, or the
-- whole first body of an if.
abbrev pub FrameStart : Context → FrameKind → FuncType → List Op → List Op → Type 0
FrameStart context Function s outer before = ⊥
FrameStart context Block s outer before =
    (t : BlockType) × (before ≡ outer ++ op.Block t ∷ []) × (block_type context.types t ≡ Some s)
FrameStart context Loop s outer before =
    (t : BlockType) × (before ≡ outer ++ op.Loop t ∷ []) × (block_type context.types t ≡ Some s)
FrameStart context If s outer before =
    (t : BlockType) × (before ≡ outer ++ op.If t ∷ []) × (block_type context.types t ≡ Some s)
FrameStart context Else s outer before =
    (t : BlockType) × (first : Body) ×
    (before ≡ outer ++ (op.If t ∷ (writing first ++ op.Else ∷ [])))
    × (block_type context.types t ≡ Some s) ×
    HasType context first (known s.params) (known s.results)

-- The frames around a frame, from the inside out. The outermost is the function's.
abbrev pub AroundRead : Context → ControlFrame → List ControlFrame → List OperandType → List Op
    → Type 0
AroundRead context l [] under before =
    (l.kind ≡ Function) × (l.start_types.now ≡ []) × (context.results ≡ Some l.end_types.now)
    × (under ≡ []) × (before ≡ [])
AroundRead context l (m ∷ ms) under before =
    (outer : List Op) × FrameStart (inside context (l ∷ m ∷ ms)) l.kind (signature_of l) outer
    before
    × (lower : List OperandType) × (earlier : List Op)
    × HereRead (inside context (m ∷ ms)) m under (hand_of l) outer lower earlier
    × AroundRead context m ms lower earlier

-- The operations read so far are typed bodies, one within the other, that lead to these operands and those in hand.
pub record IsTypingOfRead (context : Context) (l : ControlFrame) (ls : List ControlFrame)
    (operands hand : List OperandType) (read : List Op) : Type 0 where
  pub under : List OperandType
  pub before : List Op
  pub here : HereRead (inside context (l ∷ ls)) l operands hand read under before
  pub around : AroundRead context l ls under before

-- The same for the stacks, with nothing in hand.
abbrev pub TypesRead : Context → Stacks → List Op → Type 0
TypesRead context s read =
    IsTypingOfRead context s.innermost (reverse s.outer.items) s.operands [] read

-- In each context that is described, the stacks type these operations.
pub record IsReadTyped (s : BodyContext) (stacks : Stacks) (read : List Op) : Type 0 where
  pub in_context : (context : Context) → Describes s context → TypesRead context stacks read

-- In each context that is described, the operations are the writing of a body that gives the results from nothing.
pub record IsTyped (s : BodyContext) (ops : List Op) : Type 0 where
  pub in_context : (context : Context) → Describes s context
      → (body : Body) × (ops ≡ writing body) × IsBodyOf context s.results.now body
