-- Instructions without a body: from the effect of a step on the stacks to the typing of what was read.
use Rattle.std.proofs.Common.{◌≡◌, List, [], ◌∷◌, ◌++◌, reverse, sym, subst, take, ap}
use Rattle.core_types.specs.declared.op.Op.TheVariants as op
use Rattle.core_types.specs.declared.op.Op.{Op}
use Rattle.core_types.specs.declared.op.PlainOp.{PlainOp}
use Rattle.core_types.specs.declared.types.OperandType.{OperandType}
use Rattle.meaning.specs.validation.Context.{Context}
use Rattle.meaning.specs.validation.Instructions.{AllFit, Rule}
use Rattle.validator.specs.declared.context.BodyContext.{BodyContext}
use Rattle.validator.specs.declared.control_frames.ControlFrame.{ControlFrame}
use Rattle.validator.specs.declared.control_frames.Stacks.{Stacks}
use Rattle.validator.specs.Contexts.{Describes}
use Rattle.validator.specs.ControlFrames.{inside, control_stack, unreachable_from_here}
use Rattle.validator.specs.Operands.{Takes}
use Rattle.validator.specs.Soundness.{IsTypingOfRead}
use Rattle.validator.specs.Steps.{KeepsRead}
use Rattle.validator.proofs.soundness.ReadBodies.{plain_open, stop_open, took_open}

-- What the stacks state, part by part.
pub IsTypingOfRead-parts : (context : Context) (innermost l : ControlFrame) (outer ls : List ControlFrame) (all operands : List OperandType)
    (read : List Op) → innermost ≡ l → outer ≡ ls → all ≡ operands → IsTypingOfRead context l ls operands [] read
    → IsTypingOfRead context innermost outer all [] read
IsTypingOfRead-parts context innermost l outer ls all operands read same_frame same_frames same_operands opened =
    subst (λ (z : List OperandType). IsTypingOfRead context innermost outer z [] read) (sym same_operands)
    (subst (λ (z : List ControlFrame). IsTypingOfRead context innermost z operands [] read) (sym same_frames)
    (subst (λ (z : ControlFrame). IsTypingOfRead context z ls operands [] read) (sym same_frame) opened))

module _ {s : BodyContext} {old new : Stacks} where
  -- Operands are taken that fit those of a rule, and its results are pushed.
  pub rule_sound : {given left : List OperandType} (o : PlainOp) (wanted results : List OperandType) → new.innermost ≡ old.innermost → new.outer
      ≡ old.outer → Takes old.innermost.unreachable old.innermost.height old.operands given left → AllFit given wanted
      → new.operands ≡ left ++ results → ((context : Context) → Describes s context → Rule (inside context (control_stack old)) o wanted results) → KeepsRead s old new (op.Plain o)
  rule_sound {left = left} o wanted results innermost outer takes fits operands rule = record {
    keeps = λ context described read opened.
        IsTypingOfRead-parts context new.innermost old.innermost (reverse new.outer.items) (reverse old.outer.items) new.operands
        (left ++ results) (read ++ op.Plain o ∷ []) innermost (ap (λ v. reverse v.items) outer) operands
        (plain_open o results (took_open wanted opened takes fits) (rule context described));
  }

  -- Operands are taken that fit those of a rule, over anything, which leads to anything.
  pub stop_sound : {given left : List OperandType} (o : PlainOp) (wanted : List OperandType) → new.innermost ≡ unreachable_from_here old.innermost
      → new.outer ≡ old.outer → Takes old.innermost.unreachable old.innermost.height old.operands given left → AllFit given wanted
      → new.operands ≡ take old.innermost.height left
      → ((context : Context) → Describes s context → (any to : List OperandType) → Rule (inside context (control_stack old)) o (any ++ wanted) to)
      → KeepsRead s old new (op.Plain o)
  stop_sound {left = left} o wanted innermost outer takes fits operands rule = record {
    keeps = λ context described read opened.
        IsTypingOfRead-parts context new.innermost (unreachable_from_here old.innermost) (reverse new.outer.items) (reverse old.outer.items)
        new.operands (take old.innermost.height left) (read ++ op.Plain o ∷ []) innermost (ap (λ v. reverse v.items) outer) operands
        (stop_open o (took_open wanted opened takes fits) (rule context described));
  }
