-- Instructions without a body: from the effect of a step on the stacks to the typings of the rest.
use Rattle.std.proofs.Common.{◌≡◌, List, ◌++◌, length, reverse, sym, subst, take, ap}
use Rattle.core_types.specs.declared.op.Op.TheVariants as op
use Rattle.core_types.specs.declared.op.Op.{Op}
use Rattle.core_types.specs.declared.op.PlainOp.{PlainOp}
use Rattle.core_types.specs.declared.types.OperandType.{OperandType}
use Rattle.meaning.specs.validation.Context.{Context}
use Rattle.meaning.specs.validation.Instructions.{AllFit, Rule}
use Rattle.validator.specs.declared.context.BodyContext.{BodyContext}
use Rattle.validator.specs.declared.control_frames.ControlFrame.{ControlFrame}
use Rattle.validator.specs.declared.control_frames.Stacks.{Stacks}
use Rattle.validator.specs.Completeness.{IsTypingOfRest}
use Rattle.validator.specs.Contexts.{Describes}
use Rattle.validator.specs.ControlFrames.{inside, control_stack, unreachable_from_here}
use Rattle.validator.specs.Operands.{Refuses, Takes}
use Rattle.validator.specs.Steps.{CannotBeNext, KeepsRest}
use Rattle.validator.proofs.completeness.RestBodies.{plain_goes, plain_next, plain_refused, plain_stops}

-- What the stacks leave possible, part by part.
pub IsTypingOfRest-parts : (context : Context) (innermost l : ControlFrame) (outer ls : List ControlFrame) (all operands : List OperandType)
    (ops : List Op) → innermost ≡ l → outer ≡ ls → all ≡ operands → IsTypingOfRest context l ls operands ops → IsTypingOfRest context innermost outer all ops
IsTypingOfRest-parts context innermost l outer ls all operands ops same_frame same_frames same_operands possible =
    subst (λ (z : List OperandType). IsTypingOfRest context innermost outer z ops) (sym same_operands)
    (subst (λ (z : List ControlFrame). IsTypingOfRest context innermost z operands ops) (sym same_frames)
    (subst (λ (z : ControlFrame). IsTypingOfRest context z ls operands ops) (sym same_frame) possible))

-- The rules of an instruction under the labels of the stacks.
abbrev pub RuleAt : Context → Stacks → PlainOp → List OperandType → List OperandType → Type 0
RuleAt context old o operands results = Rule (inside context (control_stack old)) o operands results

module _ {s : BodyContext} {old new : Stacks} where
  -- The same number of operands is taken as each rule takes. If they fit these, results that fit its own are pushed.
  pub rule_complete : {given left : List OperandType} (o : PlainOp) (results : List OperandType) → new.innermost ≡ old.innermost → new.outer
      ≡ old.outer → Takes old.innermost.unreachable old.innermost.height old.operands given left → new.operands ≡ left ++ results
      → ((context : Context) → Describes s context → (theirs others : List OperandType) → RuleAt context old o theirs others
      → (length given ≡ length theirs) × (AllFit given theirs → AllFit results others)) → KeepsRest s old new (op.Plain o)
  rule_complete {left = left} o results innermost outer takes operands each = record {
    on = λ context is ops p.
        let n = plain_next p in
        let (long, fits) = each context is n.operands n.results n.rule in
        IsTypingOfRest-parts context new.innermost old.innermost (reverse new.outer.items) (reverse old.outer.items) new.operands
        (left ++ results) ops innermost (ap (λ v. reverse v.items) outer) operands (plain_goes results takes p long fits);
  }

  -- Nothing can be reached after it.
  pub stop_complete : {given left : List OperandType} (o : PlainOp) → new.innermost ≡ unreachable_from_here old.innermost → new.outer ≡ old.outer
      → Takes old.innermost.unreachable old.innermost.height old.operands given left → new.operands ≡ take old.innermost.height left
      → KeepsRest s old new (op.Plain o)
  stop_complete {left = left} o innermost outer takes operands = record {
    on = λ context is ops p.
        IsTypingOfRest-parts context new.innermost (unreachable_from_here old.innermost) (reverse new.outer.items) (reverse old.outer.items)
        new.operands (take old.innermost.height left) ops innermost (ap (λ v. reverse v.items) outer) operands (plain_stops takes p);
  }

-- Operands that a rule takes on top are refused, whichever rule it is.
pub rule_refused : {s : BodyContext} {old : Stacks} (o : PlainOp)
    → ((context : Context) → Describes s context → (theirs others : List OperandType) → RuleAt context old o theirs others
    → (below wanted : List OperandType) × Refuses old.innermost.unreachable old.innermost.height old.operands wanted
    × AllFit theirs (below ++ wanted))
    → CannotBeNext s old (op.Plain o)
rule_refused o each = record {
  at = λ context is ops p.
      let n = plain_next p in
      let (below, wanted, refuses, fits) = each context is n.operands n.results n.rule in
      plain_refused below wanted refuses p fits;
}

-- No rule holds.
pub no_rule : {s : BodyContext} {old : Stacks} (o : PlainOp)
    → ((context : Context) → Describes s context → (theirs others : List OperandType) → RuleAt context old o theirs others → ⊥)
    → CannotBeNext s old (op.Plain o)
no_rule o never = record { at = λ context is ops p. let n = plain_next p in never context is n.operands n.results n.rule }
