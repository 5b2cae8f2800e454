-- What remains possible with these stacks: typings of the operations that are still to be read.
use Rattle.std.specs.Prelude.{◌≡◌, List, ◌++◌, length, ◌⊎◌, ◌∷◌, [], reverse}
use Rattle.core_types.specs.declared.op.Op.TheVariants as op
use Rattle.core_types.specs.declared.op.Op.{Op}
use Rattle.core_types.specs.declared.types.OperandType.{OperandType}
use Rattle.core_types.specs.declared.types.ValType.{ValType}
use Rattle.meaning.specs.structure.Bodies.{Body, writing}
use Rattle.meaning.specs.validation.Context.{Context}
use Rattle.meaning.specs.validation.Instructions.{HasType, known}
use Rattle.validator.specs.declared.context.BodyContext.{BodyContext}
use Rattle.validator.specs.declared.control_frames.ControlFrame.{ControlFrame}
use Rattle.validator.specs.declared.control_frames.FrameKind.TheVariants.{Function, Block, Loop, If, Else}
use Rattle.validator.specs.declared.control_frames.FrameKind.{FrameKind}
use Rattle.validator.specs.declared.control_frames.Stacks.{Stacks}
use Rattle.validator.specs.Contexts.{Describes, IsBodyOf}
use Rattle.validator.specs.ControlFrames.{inside}
use Rattle.validator.specs.Operands.{Covers}

-- Of the operations to read, the rest of the frame's body comes first, and `later` comes after it. The body leads from operands that the
-- frame's own cover, with those in hand, to the frame's end types.
pub record HereRest (context : Context) (l : ControlFrame) (operands hand : List OperandType)
    (ops : List Op) (under : List OperandType) (later : List Op) : Type 0 where
  pub own : List OperandType
  pub whole : operands ≡ under ++ own
  pub height : length under ≡ l.height
  pub theirs : List OperandType
  pub covers : Covers l.unreachable own theirs
  pub rest : Body
  pub typed : HasType context rest (theirs ++ hand) (known l.end_types.now)
  pub written : ops ≡ writing rest ++ later

-- What ends a frame: an end, or for an if also an else with another body.
abbrev pub FrameEnd : Context → FrameKind → List ValType → List ValType → List Op → List Op → Type 0
FrameEnd context Function start_types end_types later after = ⊥
FrameEnd context Block start_types end_types later after = later ≡ op.End ∷ after
FrameEnd context Loop start_types end_types later after = later ≡ op.End ∷ after
FrameEnd context Else start_types end_types later after = later ≡ op.End ∷ after
FrameEnd context If start_types end_types later after =
    ((later ≡ op.End ∷ after) × (start_types ≡ end_types))
    ⊎ ((other : Body) × (later ≡ op.Else ∷ (writing other ++ (op.End ∷ after)))
    × HasType context other (known start_types) (known end_types))

-- The rests of the frames around, from the inside out, have typings.
abbrev pub AroundRest : Context → ControlFrame → List ControlFrame → List OperandType → List Op
    → Type 0
AroundRest context l [] under later = (l.kind ≡ Function) × (under ≡ []) × (later ≡ [])
AroundRest context l (m ∷ ms) under later =
    (after : List Op)
    × FrameEnd (inside context (l ∷ m ∷ ms)) l.kind l.start_types.now l.end_types.now later after
    × (lower : List OperandType) × (last : List Op)
    × HereRest (inside context (m ∷ ms)) m under (known l.end_types.now) after lower last
    × AroundRest context m ms lower last

-- The operations to read can end the bodies of the frames by a typing.
pub record IsTypingOfRest (context : Context) (l : ControlFrame) (ls : List ControlFrame)
    (operands : List OperandType) (ops : List Op) : Type 0 where
  pub under : List OperandType
  pub later : List Op
  pub here : HereRest (inside context (l ∷ ls)) l operands [] ops under later
  pub around : AroundRest context l ls under later

abbrev pub TypesRest : Context → Stacks → List Op → Type 0
TypesRest context s ops =
    IsTypingOfRest context s.innermost (reverse s.outer.items) s.operands ops

-- In each context that is described, and for any typing of the operations, the rest of them has a typing from the stacks.
pub record IsRestTyped (s : BodyContext) (ops : List Op) (stacks : Stacks) (rest : List Op)
    : Type 0 where
  pub in_context : (context : Context) → Describes s context → (body : Body) → ops ≡ writing body
      → IsBodyOf context s.results.now body → TypesRest context stacks rest

-- In no context that is described are the operations the writing of a body that gives the results from nothing.
pub record IsUntyped (s : BodyContext) (ops : List Op) : Type 0 where
  pub in_context : (context : Context) → Describes s context → (body : Body) → ops ≡ writing body
      → IsBodyOf context s.results.now body → ⊥
