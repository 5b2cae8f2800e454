-- What a step does, from what it does to the stacks: by the type of an instruction, by a rule after which nothing can be
-- reached, or into a block.
use Rattle.std.proofs.Common.{◌≡◌, Some, false, List, [], ◌∷◌, ◌++◌, length, map, reverse, take, sym, ap, ◌∙◌, subst}
use Rattle.std.specs.Prelude.{Result}
use Rattle.core_types.specs.declared.op.BlockType.{BlockType}
use Rattle.core_types.specs.declared.op.Op.{Op}
use Rattle.core_types.specs.declared.op.Op.TheVariants.{Plain}
use Rattle.core_types.specs.declared.op.PlainOp.{PlainOp}
use Rattle.core_types.specs.declared.types.FuncType.{FuncType}
use Rattle.core_types.specs.declared.types.OperandType.{OperandType}
use Rattle.meaning.specs.validation.Context.{Context}
use Rattle.meaning.specs.validation.Instructions.{AllFit, HasFuncType, Rule, known}
use Rattle.meaning.specs.validation.Types.{block_type}
use Rattle.meaning.proofs.lemmas.Typing.{AllFit-same}
use Rattle.validator.specs.declared.context.BodyContext.{BodyContext}
use Rattle.validator.specs.declared.control_frames.ControlFrame.{ControlFrame}
use Rattle.validator.specs.declared.control_frames.Stacks.{Stacks}
use Rattle.validator.specs.declared.errors.Fault.{Fault}
use Rattle.validator.specs.Contexts.{Describes}
use Rattle.validator.specs.ControlFrames.{IsMark, control_stack, hand_of, inside, label_of, signature_of, unreachable_from_here}
use Rattle.validator.specs.InstructionTypes.{HasNoType, IsTypeOf}
use Rattle.validator.specs.Operands.{Takes}
use Rattle.validator.specs.Steps.{CannotBeNext, RefusesType, Steps, StepsByType, StepsTo}
use Rattle.validator.proofs.completeness.BlockStarts.{begin_complete}
use Rattle.validator.proofs.completeness.Covers.{AllFit-length}
use Rattle.validator.proofs.completeness.Instructions.{no_rule, rule_complete, rule_refused, stop_complete}
use Rattle.validator.proofs.soundness.Instructions.{IsTypingOfRead-parts, rule_sound, stop_sound}
use Rattle.validator.proofs.soundness.ReadBodies.{start_open, took_open}

module _ {lent : BodyContext} {old new : Stacks} where
  -- The operands of its type are taken, and its results are pushed.
  pub type_steps : {given left : List OperandType} (o : PlainOp) (t : FuncType) → IsTypeOf lent (map label_of (control_stack old)) o t
      → new.innermost ≡ old.innermost → new.outer ≡ old.outer
      → Takes old.innermost.unreachable old.innermost.height old.operands given left → AllFit given (known t.params)
      → new.operands ≡ left ++ known t.results → StepsTo lent old new (Plain o)
  type_steps {given = given} o t type innermost outer takes fits operands = record {
    sound = rule_sound o (known t.params) (known t.results) innermost outer takes fits operands type.rule;
    complete = rule_complete o (known t.results) innermost outer takes operands
        (λ context described theirs others rule.
        let (parameters, results) = type.only context described theirs others rule in
        (AllFit-length given (known t.params) fits ∙ sym (ap length parameters), λ fit. rw results (AllFit-same (known t.results))));
  }

  -- The operands of a rule are taken, and nothing can be reached after it.
  pub stop_steps : {given left : List OperandType} (o : PlainOp) (wanted : List OperandType)
      → new.innermost ≡ unreachable_from_here old.innermost → new.outer ≡ old.outer
      → Takes old.innermost.unreachable old.innermost.height old.operands given left → AllFit given wanted
      → new.operands ≡ take old.innermost.height left
      → ((context : Context) → Describes lent context → (any to : List OperandType) → Rule (inside context (control_stack old)) o (any ++ wanted) to)
      → StepsTo lent old new (Plain o)
  stop_steps o wanted innermost outer takes fits operands rule = record {
    sound = stop_sound o wanted innermost outer takes fits operands rule;
    complete = stop_complete o innermost outer takes operands;
  }

-- A block begins.
pub begin_steps : {lent : BodyContext} {old new : Stacks} {given left : List OperandType} (frame : ControlFrame) (t : BlockType) (o : Op)
    → IsMark frame.kind t o → block_type lent.types.now t ≡ Some (signature_of frame)
    → Takes old.innermost.unreachable old.innermost.height old.operands given left → AllFit given (hand_of frame)
    → frame.height ≡ length left → frame.unreachable ≡ false → new.innermost ≡ frame
    → reverse new.outer.items ≡ old.innermost ∷ reverse old.outer.items → new.operands ≡ left ++ known frame.start_types.now → StepsTo lent old new o
begin_steps {lent} {old} {new} {given} {left} frame t o mark type takes fits height alive innermost outer operands = record {
  sound = record {
    keeps = λ context described read opened.
        IsTypingOfRead-parts context new.innermost frame (reverse new.outer.items) (old.innermost ∷ reverse old.outer.items) new.operands
        (left ++ known frame.start_types.now) (read ++ o ∷ []) innermost outer operands
        (start_open frame t o (took_open (hand_of frame) opened takes fits) height alive mark (ap (λ (types : List FuncType). block_type types t) described.types ∙ type));
  };
  complete = begin_complete frame t o mark type takes fits height innermost outer operands;
}

-- An instruction that has this type in every context. The result is the same.
pub fixed_steps : (lent : BodyContext) (old new : Stacks) (result : Result (Unit {0}) Fault) (o : PlainOp) (found t : FuncType) → found ≡ t
    → ((context : Context) → Rule context o (known t.params) (known t.results))
    → ((context : Context) (operands results : List OperandType) → Rule context o operands results → HasFuncType t operands results)
    → StepsByType old new found result → Steps lent old new (Plain o) result
fixed_steps lent old new result o found t same rule only steps =
    steps lent o (subst (λ (z : FuncType). IsTypeOf lent (map label_of (control_stack old)) o z) (sym same) (record {
      rule = λ context described. rule (record context { labels = map label_of (control_stack old) });
      only = λ context described operands results is. only (record context { labels = map label_of (control_stack old) }) operands results is;
    }))

module _ {lent : BodyContext} {old : Stacks} (o : PlainOp) where
  -- The operands of its type are refused.
  pub type_refused : (t : FuncType) → IsTypeOf lent (map label_of (control_stack old)) o t → RefusesType old t → CannotBeNext lent old (Plain o)
  type_refused t type refuses =
      rule_refused o
      (λ context described theirs others rule.
      let (parameters, results) = type.only context described theirs others rule in
      ([], known t.params, refuses, subst (λ (z : List OperandType). AllFit z (known t.params)) (sym parameters) (AllFit-same (known t.params))))

  -- The instruction has no type.
  pub no_type : HasNoType lent (map label_of (control_stack old)) o → CannotBeNext lent old (Plain o)
  no_type type = no_rule o type.none
