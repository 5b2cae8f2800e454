-- What valid parts of a module show in the terms of its index spaces.
use Rattle.std.proofs.Common.{◌≡◌, ℕ, ◌<◌, Bool, false, List, [], ◌∷◌, length, map, get_or, inl, inr, refl, sym, ap, ◌∙◌, subst, arith}
use Rattle.std.proofs.lemmas.List.Elements.{All-get_or, All-head, All-tail, All-weaker}
use Rattle.std.proofs.lemmas.List.{length-map}
use Rattle.std.proofs.lemmas.Option.{slice_get-map, slice_get-get_or, slice_get_within}
use Rattle.std.specs.Prelude.{Bool, ◌↔◌, All, IfErr, IsTrue, OnErr, Option, Some, None, Result, Ok, Err, option_map, slice_get, unwrap_or}
use Rattle.core_types.specs.declared.module.DataMode.TheVariants as data_mode
use Rattle.core_types.specs.declared.module.DataMode.{DataMode}
use Rattle.core_types.specs.declared.module.DataSegment.{DataSegment}
use Rattle.core_types.specs.declared.module.ElementItems.TheVariants.{Functions, Expressions}
use Rattle.core_types.specs.declared.module.ElementItems.{ElementItems}
use Rattle.core_types.specs.declared.module.ElementMode.TheVariants.{Passive, Active, Declarative}
use Rattle.core_types.specs.declared.module.ElementMode.{ElementMode}
use Rattle.core_types.specs.declared.module.ElementSegment.{ElementSegment}
use Rattle.core_types.specs.declared.module.Global.{Global}
use Rattle.core_types.specs.declared.module.Module.{Module}
use Rattle.core_types.specs.declared.op.NumericOp.{NumericOp}
use Rattle.core_types.specs.declared.op.Op.TheVariants.{Plain, Block, Loop, If}
use Rattle.core_types.specs.declared.op.Op.{Op}
use Rattle.core_types.specs.declared.op.PlainOp.TheVariants.{Control, BrTable, Reference, Parametric, SelectTyped, Variable, Table, Memory, Numeric, I32Const, I64Const}
use Rattle.core_types.specs.declared.op.PlainOp.{PlainOp}
use Rattle.core_types.specs.declared.op.ReferenceOp.TheVariants as reference
use Rattle.core_types.specs.declared.op.ReferenceOp.{ReferenceOp}
use Rattle.core_types.specs.declared.op.VariableOp.TheVariants.{LocalGet, LocalSet, LocalTee, GlobalGet, GlobalSet}
use Rattle.core_types.specs.declared.op.VariableOp.{VariableOp}
use Rattle.core_types.specs.declared.types.FuncType.{FuncType}
use Rattle.core_types.specs.declared.types.GlobalType.{GlobalType}
use Rattle.core_types.specs.declared.types.Mutability.TheVariants.{Const}
use Rattle.core_types.specs.declared.types.Mutability.{Mutability}
use Rattle.core_types.specs.declared.types.OperandType.{OperandType}
use Rattle.core_types.specs.declared.types.RefType.{RefType}
use Rattle.core_types.specs.declared.types.ValType.TheVariants.{I32}
use Rattle.core_types.specs.declared.types.ValType.{ValType}
use Rattle.meaning.specs.structure.Bodies.{Body, BlockKind, Empty, IfElse, IfKind, LoopKind, Nested, Then, writing}
use Rattle.meaning.specs.validation.Instructions.{AllFit, HasType, known, Rule}
use Rattle.meaning.specs.validation.Modules.{constant_context, function_indices, HasDataMode, HasElementMode, HasItemsOfType, IsConstant, IsConstantExpression, IsValidElement, IsValidStart, type_at}
use Rattle.meaning.specs.validation.Types.{reference_type}
use Rattle.validator.specs.declared.constants.ConstantContext.{ConstantContext}
use Rattle.index_spaces.specs.declared.IndexSpaces.{IndexSpaces}
use Rattle.validator.specs.Constants.{GivesConstant, GivesGlobal, GivesReference, IsConstantContext, IsConstantIn, LeadsToOne, Operates}
use Rattle.index_spaces.specs.IndexSpaces.{AreIndexSpaces}
use Rattle.validator.specs.ModuleParts.{AreItemsIn, IsDataModeIn, IsElementIn, IsElementModeIn, IsStartIn}
use Rattle.validator.specs.References.{HasMarks}
use Rattle.validator.proofs.completeness.Constants.{AreFit, before-operator, before-put, gives_one, operator_rule}

-- A rule that does not hold is refused.
pub answer_refused : {P Q : Type 0} (answer : Bool) → IsTrue answer ↔ P → answer ≡ false → (Q → P) → ¬ Q
answer_refused answer decides is_false means = λ q. let yes = decides.1 (means q) in absurd cc

pub with_any_error : {T E : Type 0} (Q : E → Type 0) (r : Result T E) → ((error : E) → Q error) → IfErr r Q
with_any_error Q (Ok x) told = tt
with_any_error Q (Err error) told = told error

pub on_error_from : {T E Q : Type 0} (P : E → Type 0) (r : Result T E) → ((error : E) → P error → Q) → IfErr r P → OnErr r Q
on_error_from P (Ok x) means told = tt
on_error_from P (Err error) means told = means error told

pub on_any_error : {T E P : Type 0} (r : Result T E) → P → OnErr r P
on_any_error (Ok x) told = tt
on_any_error (Err error) told = told

constant_global : (g : GlobalType) (t : ValType) → g.value ≡ t → g.mutability ≡ Const → g ≡ record { value = t; mutability = Const }
constant_global g t value mutability =
    ap (λ (v : ValType). record { value = v; mutability = g.mutability }) value ∙ ap (λ (k : Mutability). record { value = t; mutability = k }) mutability

module _ {m : Module} {s : IndexSpaces} {marks : List Bool} {context : ConstantContext} (spaces : AreIndexSpaces m s) (has_marks : HasMarks m marks)
    (lends : IsConstantContext m marks context) where
  reference_given : (op : ReferenceOp) (t : ValType) → IsConstant (constant_context m) (Plain (Reference op))
      → Rule (constant_context m) (Reference op) [] (known (t ∷ [])) → GivesReference context op t
  unfolding GivesReference
  reference_given (reference.Null r) t constant rule = let same = rule.1 in cc
  reference_given reference.IsNull t constant rule = absurd constant
  reference_given (reference.Func x) t constant rule =
      let inside = slice_get_within (map (type_at m.types) (function_indices m)) x rule.0 rule.1 in
      let there : x < length (function_indices m) = omega (arith, inside, length-map (function_indices m) (type_at m.types)) in
      (rw lends.declared (has_marks.set x there rule.2), let same = rule.3.1 in cc)

  global_given : (op : VariableOp) (t : ValType) → IsConstant (constant_context m) (Plain (Variable op)) → Rule (constant_context m) (Variable op) [] (known (t ∷ [])) → GivesGlobal context op t
  unfolding GivesGlobal
  global_given (LocalGet x) t constant rule = absurd constant
  global_given (LocalSet x) t constant rule = absurd constant
  global_given (LocalTee x) t constant rule = absurd constant
  global_given (GlobalGet x) t constant rule =
      let found = constant.1 in
      let again = rule.1 in
      let same : constant.0 ≡ rule.0 = cc in
      let sort = rule.2.1 in
      let value : constant.0.value ≡ t = cc in
      rw lends.globals (found ∙ ap Some (constant_global constant.0 t value constant.2))
  global_given (GlobalSet x) t constant rule = absurd constant

  -- An operator takes something.
  no_operator : (op : NumericOp) (t : ValType) → IsConstant (constant_context m) (Plain (Numeric op))
      → Rule (constant_context m) (Numeric op) [] (known (t ∷ [])) → GivesConstant context (Numeric op) t
  no_operator op t constant rule =
      let (u, operates, two, one) = operator_rule (constant_context m) op [] (known (t ∷ [])) constant rule in absurd cc

  instruction_given : (op : PlainOp) (t : ValType) → IsConstant (constant_context m) (Plain op) → Rule (constant_context m) op [] (known (t ∷ [])) → GivesConstant context op t
  unfolding GivesConstant
  instruction_given (I32Const n) t constant rule = (rule.0, let same = rule.1.1 in cc)
  instruction_given (I64Const n) t constant rule = (rule.0, let same = rule.1.1 in cc)
  instruction_given (Reference op) t constant rule = reference_given op t constant rule
  instruction_given (Variable op) t constant rule = global_given op t constant rule
  instruction_given (Control op) t constant rule = absurd constant
  instruction_given (BrTable table) t constant rule = absurd constant
  instruction_given (Parametric op) t constant rule = absurd constant
  instruction_given (SelectTyped types) t constant rule = absurd constant
  instruction_given (Table op) t constant rule = absurd constant
  instruction_given (Memory op) t constant rule = absurd constant
  instruction_given (Numeric op) t constant rule = no_operator op t constant rule

  -- What a body of constant instructions finds fits the type of what it leaves, and its instructions lead to one operand.
  leads_from : (body : Body) (t : ValType) (before : List OperandType) → All (IsConstant (constant_context m)) (writing body) → HasType (constant_context m) body before (known (t ∷ []))
      → AreFit t before × LeadsToOne context t (length before) (writing body)
  leads_from Empty t before all typed = one before typed
    where
      one : (before : List OperandType) → AllFit before (known (t ∷ [])) → AreFit t before × (length before ≡ 1)
      one [] fits = absurd fits
      one (u ∷ []) fits = (fits, refl)
      one (u ∷ v ∷ us) fits = absurd fits.1
  leads_from (Then op rest) t before all (operands, results, between, rule, frame, typed) =
      let (fits, leads) = leads_from rest t between (All-tail (IsConstant (constant_context m)) (Plain op) (writing rest) all) typed in
      let constant = All-head (IsConstant (constant_context m)) (Plain op) (writing rest) all in
      elim (gives_one (constant_context m) op operands results constant rule) [
        | inl given ↦ (
            let (u, none, one) = given in
            let (type, fits_before, longer) = before-put t u operands results before between none one frame fits in
            let rule_of : Rule (constant_context m) op [] (known (t ∷ [])) = subst (λ (ts : List OperandType). Rule (constant_context m) op [] ts)
            (one ∙ ap (λ (v : ValType). known (v ∷ [])) type) (subst (λ (ts : List OperandType). Rule (constant_context m) op ts results) none rule) in
            (fits_before, (length between, inl (instruction_given op t constant rule_of, longer), leads)))
        | inr given ↦ (
            let (n, op_is, (u, operates, two, one)) = given in
            let (type, fits_before, enough, shorter) = before-operator t u operands results before between two one frame fits in
            let operates_t : Operates op t = subst (λ (o : PlainOp). Operates o t) (sym op_is) (subst (Operates (Numeric n)) type operates) in
            (fits_before, (length between, inr (operates_t, enough, shorter), leads)))
      ]
  leads_from (Nested BlockKind type inner rest) t before all typed = absurd (All-head (IsConstant (constant_context m)) (Block type) _ all)
  leads_from (Nested LoopKind type inner rest) t before all typed = absurd (All-head (IsConstant (constant_context m)) (Loop type) _ all)
  leads_from (Nested IfKind type inner rest) t before all typed = absurd (All-head (IsConstant (constant_context m)) (If type) _ all)
  leads_from (IfElse type inner other rest) t before all typed = absurd (All-head (IsConstant (constant_context m)) (If type) _ all)

  expression_given : (ops : List Op) (t : ValType) → IsConstantExpression (constant_context m) ops t → IsConstantIn context ops t
  expression_given ops t expression =
      let (fits, leads) = leads_from expression.body t [] (subst (All (IsConstant (constant_context m))) expression.written expression.constant) expression.typed in
      subst (λ (written : List Op). IsConstantIn context written t) (sym expression.written) leads

  pub globals_given : (globals : List Global) → All (λ (g : Global). IsConstantExpression (constant_context m) g.init g.ty.value) globals
      → All (λ (g : Global). IsConstantIn context g.init g.ty.value) globals
  globals_given = All-weaker (λ (g : Global). IsConstantExpression (constant_context m) g.init g.ty.value)
      (λ (g : Global). IsConstantIn context g.init g.ty.value) (λ g. expression_given g.init g.ty.value)

  items_given : (t : RefType) (items : ElementItems) → HasItemsOfType m t items → AreItemsIn s context t items
  unfolding AreItemsIn
  items_given t (Functions indices) h = (h.0, subst (λ (functions : List ℕ). All (λ (x : ℕ). x < length functions) indices) (sym spaces.functions) h.1)
  items_given t (Expressions expressions) h =
      All-weaker (λ (ops : List Op). IsConstantExpression (constant_context m) ops (reference_type t))
      (λ (ops : List Op). IsConstantIn context ops (reference_type t)) (λ ops. expression_given ops (reference_type t)) expressions h

  element_mode_given : (t : RefType) (mode : ElementMode) → HasElementMode m t mode → IsElementModeIn s context t mode
  unfolding IsElementModeIn
  element_mode_given t Passive h = tt
  element_mode_given t Declarative h = tt
  element_mode_given t (Active x offset) h = (h.0, rw spaces.tables h.1, h.2, expression_given offset I32 h.3)

  pub elements_given : (elements : List ElementSegment) → All (IsValidElement m) elements → All (IsElementIn s context) elements
  elements_given = All-weaker (IsValidElement m) (IsElementIn s context) (λ e h. (items_given e.ty e.items h.items, element_mode_given e.ty e.mode h.mode))

  data_mode_given : (mode : DataMode) → HasDataMode m mode → IsDataModeIn s context mode
  unfolding IsDataModeIn
  data_mode_given data_mode.Passive h = tt
  data_mode_given (data_mode.Active x offset) h = (rw spaces.memories h.0, expression_given offset I32 h.1)

  pub datas_given : (datas : List DataSegment) → All (λ (d : DataSegment). HasDataMode m d.mode) datas → All (λ (d : DataSegment). IsDataModeIn s context d.mode) datas
  datas_given = All-weaker (λ (d : DataSegment). HasDataMode m d.mode) (λ (d : DataSegment). IsDataModeIn s context d.mode) (λ d. data_mode_given d.mode)

module _ {m : Module} {s : IndexSpaces} (spaces : AreIndexSpaces m s) where
  pub start_given : All (λ (x : ℕ). x < length m.types) (function_indices m) → (start : Option ℕ) → IsValidStart m start → IsStartIn m.types s start
  unfolding IsStartIn
  start_given typed None h = tt
  start_given typed (Some x) h =
      let empty : FuncType = record { params = []; results = [] } in
      let inside : x < length (function_indices m) = omega (arith, slice_get_within (map (type_at m.types) (function_indices m)) x empty h, length-map (function_indices m) (type_at m.types)) in
      let index = get_or (function_indices m) x 0 in
      let there = slice_get-get_or (function_indices m) x 0 inside in
      let type_there = slice_get-get_or m.types index empty (All-get_or (λ (x : ℕ). x < length m.types) (function_indices m) x 0 inside typed) in
      let known_as : slice_get (map (type_at m.types) (function_indices m)) x
      ≡ Some (type_at m.types index) = slice_get-map (type_at m.types) (function_indices m) x ∙ ap (option_map (type_at m.types)) there in
      let is_type : type_at m.types index ≡ get_or m.types index empty = ap (λ (found : Option FuncType). unwrap_or found empty) type_there in
      let is_empty : type_at m.types index ≡ empty = cc in
      (index, rw spaces.functions there, type_there ∙ ap Some (sym is_type ∙ is_empty))
