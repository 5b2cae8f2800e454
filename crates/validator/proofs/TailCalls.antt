-- Tail calls, from the types of the calls.
use Rattle.std.proofs.Common.{◌≡◌, Some, List, [], ◌∷◌, ◌++◌, map, ap, sym, subst, ◌∙◌, inl, inr, refl}
use Rattle.core_types.specs.declared.op.ControlOp.{ControlOp}
use Rattle.core_types.specs.declared.op.Op.TheVariants.{Plain}
use Rattle.core_types.specs.declared.op.PlainOp.TheVariants.{Control}
use Rattle.core_types.specs.declared.types.FuncType.{FuncType}
use Rattle.core_types.specs.declared.types.OperandType.{OperandType}
use Rattle.core_types.specs.declared.types.ValType.{ValType}
use Rattle.core_types.specs.declared.types.ValType.TheVariants.{I32}
use Rattle.meaning.proofs.lemmas.Typing.{AllFit-same}
use Rattle.meaning.specs.validation.Context.{Context}
use Rattle.meaning.specs.validation.Instructions.{AllFit, HasFuncType, Rule, known}
use Rattle.meaning.specs.validation.Types.{function_type}
use Rattle.validator.specs.declared.context.BodyContext.{BodyContext}
use Rattle.validator.specs.declared.control_frames.Stacks.{Stacks}
use Rattle.validator.specs.Contexts.{Describes}
use Rattle.validator.specs.ControlFrames.{control_stack, inside, label_of}
use Rattle.validator.specs.InstructionTypes.{HasNoType, IsTypeOf}
use Rattle.validator.specs.Steps.{CannotBeNext, IsTailCallOf, RefusesType}
use Rattle.validator.proofs.completeness.Instructions.{no_rule, rule_refused}

same_types : (ts us : List ValType) → known ts ≡ known us → ts ≡ us
same_types [] [] e = refl
same_types [] (u ∷ us) e = absurd cc
same_types (t ∷ ts) [] e = absurd cc
same_types (t ∷ ts) (u ∷ us) e =
    let first : t ≡ u = cc in
    let rest : known ts ≡ known us = cc in
    ap (λ (z : ValType). z ∷ ts) first ∙ ap (λ (z : List ValType). u ∷ z) (same_types ts us rest)

-- A call that gives the results of the function that it is in, by parts.
parts_of : (context : Context) (t : FuncType) (params results : List ValType) → context.results ≡ Some results
    → HasFuncType t (known params) (known results) → (any : List OperandType) → (context.results ≡ Some t.results)
    × (any ++ known params ≡ any ++ known t.params)
parts_of context t params results given (takes, gives) any = (given ∙ ap Some (same_types results t.results gives), ap (λ (z : List OperandType). any ++ z) takes)

-- If a call gives the results of the function that contains it, its tail call takes the same over anything, and leads to anything.
tail_rule : (context : Context) (call tail : ControlOp) (params results : List ValType) → IsTailCallOf call tail
    → Rule context (Control call) (known params) (known results) → context.results ≡ Some results → (any to : List OperandType)
    → Rule context (Control tail) (any ++ known params) to
tail_rule context call tail params results (inl (x, same, is)) rule given any to =
    let (f, found, shape) = rw same at rule in
    let (gives, takes) = parts_of context f params results given shape any in
    rw is (f, any, found, gives, takes)
tail_rule context call tail params results (inr (type, x, same, is)) rule given any to =
    let (f, found, table, shape) = rw same at rule in
    let (gives, takes) = parts_of context (function_type (f.params ++ I32 ∷ []) f.results) params results given shape any in
    rw is (f, any, found, table, gives, takes)

-- The call of a tail call that has a rule. It also has a rule, and the results of the function.
record CallBehind (context : Context) (call : ControlOp) (operands : List OperandType) : Type 0 where
  below : List OperandType
  params : List ValType
  results : List ValType
  rule : Rule context (Control call) (known params) (known results)
  given : context.results ≡ Some results
  parts : operands ≡ below ++ known params

call_behind : (context : Context) (call tail : ControlOp) (operands others : List OperandType) → IsTailCallOf call tail → Rule context (Control tail) operands others → CallBehind context call operands
call_behind context call tail operands others (inl (x, same, is)) rule =
    let (f, below, found, given, parts) = rw is at rule in
    record { below = below; params = f.params; results = f.results; rule = rw same (f, found, (refl, refl)); given = given; parts = parts }
call_behind context call tail operands others (inr (type, x, same, is)) rule =
    let (f, below, found, table, given, parts) = rw is at rule in
    record { below = below; params = f.params ++ I32 ∷ []; results = f.results; rule = rw same (f, found, table, (refl, refl)); given = given; parts = parts }

module _ {lent : BodyContext} (old : Stacks) {call tail : ControlOp} (is : IsTailCallOf call tail) where
  -- The rule of a tail call, if the results of the call are those of the function.
  pub tail_rule_of : (t : FuncType) → IsTypeOf lent (map label_of (control_stack old)) (Control call) t → t.results ≡ lent.results.now
      → (context : Context) → Describes lent context → (any to : List OperandType) → Rule (inside context (control_stack old)) (Control tail) (any ++ known t.params) to
  tail_rule_of t type same context described any to =
      tail_rule (inside context (control_stack old)) call tail t.params t.results is (type.rule context described) (described.results ∙ ap Some (sym same)) any to

  -- The operands of the call are refused.
  pub tail_refused : (t : FuncType) → IsTypeOf lent (map label_of (control_stack old)) (Control call) t → RefusesType old t → CannotBeNext lent old (Plain (Control tail))
  tail_refused t type refuses =
      rule_refused (Control tail)
      (λ context described theirs others rule.
      let behind = call_behind (inside context (control_stack old)) call tail theirs others is rule in
      let (operands, results) = type.only context described (known behind.params) (known behind.results) behind.rule in (
        behind.below,
        known t.params,
        refuses,
        subst (λ (z : List OperandType). AllFit z (behind.below ++ known t.params))
            (sym (behind.parts ∙ ap (λ (z : List OperandType). behind.below ++ z) operands)) (AllFit-same (behind.below ++ known t.params)),
      ))

  -- The call gives results that differ from those of the function.
  pub tail_differs : (t : FuncType) → IsTypeOf lent (map label_of (control_stack old)) (Control call) t → (t.results ≡ lent.results.now → ⊥) → CannotBeNext lent old (Plain (Control tail))
  tail_differs t type other =
      no_rule (Control tail)
      (λ context described theirs others rule.
      let behind = call_behind (inside context (control_stack old)) call tail theirs others is rule in
      let (operands, results) = type.only context described (known behind.params) (known behind.results) behind.rule in
      let given : Some lent.results.now ≡ Some behind.results = sym described.results ∙ behind.given in
      let same : lent.results.now ≡ behind.results = cc in
      other (sym (same_types behind.results t.results results) ∙ sym same))

  -- The call has no type.
  pub tail_missing : HasNoType lent (map label_of (control_stack old)) (Control call) → CannotBeNext lent old (Plain (Control tail))
  tail_missing type =
      no_rule (Control tail)
      (λ context described theirs others rule.
      let behind = call_behind (inside context (control_stack old)) call tail theirs others is rule in
      type.none context described (known behind.params) (known behind.results) behind.rule)
