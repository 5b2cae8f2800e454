-- Configurations: nested labels and frames (Execution, Runtime Structure, Administrative Instructions). Values are listed from the top of
-- the stack. The values of a configuration are before its leftmost redex, and the rest is after it.
use Rattle.std.specs.Prelude.{ℕ, suc, List, [], ◌++◌, reverse, Option, None}
use Rattle.core_types.specs.declared.outcome.Val.{Val}
use Rattle.core_types.specs.declared.op.BlockType.{BlockType}
use Rattle.meaning.specs.structure.Bodies.{Body, LoopKind, Nested}

-- The state of a frame: the address of its module instance, or none outside of all modules, and its locals (Activations and Frames).
pub record Frame : Type 0 where
  pub instance : Option ℕ
  pub locals : List Val

-- Outside of a call from outside there is no instance, and there are no locals.
abbrev pub no_frame : Frame
no_frame = record { instance = None; locals = [] }

-- How a branch to a label continues: with what follows the label, or with the loop again.
pub data Continuation : Type 0 where
  Onward : Continuation
  Again : (type : BlockType) (inside : Body) → Continuation

-- The continuation, and then what follows the label.
abbrev pub continue_with : Continuation → Body → Body
continue_with Onward rest = rest
continue_with (Again type inside) rest = Nested LoopKind type inside rest

-- A label (Labels): the number of values that a branch to it keeps, how the branch continues, the values under the label, and the
-- instructions after it.
pub record Label : Type 0 where
  pub arity : ℕ
  pub continuation : Continuation
  pub values : List Val
  pub rest : Body

-- An activation of a function: the number of its results, the values under it, and the instructions after it.
pub record Activation : Type 0 where
  pub arity : ℕ
  pub values : List Val
  pub rest : Body

pub data Configuration : Type 0 where
  Running : (values : List Val) (rest : Body) → Configuration
  InLabel : (label : Label) (inside : Configuration) → Configuration
  InFrame : (activation : Activation) (frame : Frame) (inside : Configuration) → Configuration
  -- a call of the function at an address, with its arguments
  Invoking : (arguments : List Val) (address : ℕ) → Configuration

-- The number of open frames, which is this project's own measure.
abbrev pub depth : Configuration → ℕ
depth (Running values rest) = 0
depth (InLabel label inside) = depth inside
depth (InFrame activation frame inside) = suc (depth inside)
depth (Invoking arguments address) = 0

-- The results of a host function, pushed on the innermost values.
abbrev pub answered : List Val → Configuration → Configuration
answered results (Running values rest) = Running (reverse results ++ values) rest
answered results (InLabel label inside) = InLabel label (answered results inside)
answered results (InFrame activation frame inside) =
    InFrame activation frame (answered results inside)
answered results (Invoking arguments address) = Invoking arguments address
