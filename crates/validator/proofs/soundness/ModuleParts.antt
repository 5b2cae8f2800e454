-- The rules of a module's parts, from what was checked by its index spaces.
use Rattle.std.proofs.Common.{◌≡◌, ℕ, suc, ◌+◌, ◌-◌, ◌<◌, ◌≤◌, List, [], ◌∷◌, ◌++◌, length, map, get_or, inl, inr, refl, ap, sym, ◌∙◌, subst, arith}
use Rattle.std.proofs.lemmas.List.Elements.{All-nil, All-cons, All-weaker}
use Rattle.std.proofs.lemmas.List.{append-nil, map-append, replicate-append-replicate}
use Rattle.std.proofs.lemmas.Option.{slice_get-map, slice_get-get_or, slice_get_within}
use Rattle.std.specs.Prelude.{Bool, All, Option, Some, None, option_map, true, slice_get, unwrap_or, replicate}
use Rattle.core_types.specs.declared.module.DataMode.TheVariants as data_mode
use Rattle.core_types.specs.declared.module.DataMode.{DataMode}
use Rattle.core_types.specs.declared.module.DataSegment.{DataSegment}
use Rattle.core_types.specs.declared.module.ElementItems.TheVariants.{Functions, Expressions}
use Rattle.core_types.specs.declared.module.ElementItems.{ElementItems}
use Rattle.core_types.specs.declared.module.ElementMode.TheVariants.{Passive, Active, Declarative}
use Rattle.core_types.specs.declared.module.ElementMode.{ElementMode}
use Rattle.core_types.specs.declared.module.ElementSegment.{ElementSegment}
use Rattle.core_types.specs.declared.module.Export.{Export}
use Rattle.core_types.specs.declared.module.ExportDesc.TheVariants as export
use Rattle.core_types.specs.declared.module.ExportDesc.{ExportDesc}
use Rattle.core_types.specs.declared.module.Global.{Global}
use Rattle.core_types.specs.declared.module.Module.{Module}
use Rattle.core_types.specs.declared.op.BinaryOp.TheVariants.{Add, Sub, Mul, DivS, DivU, RemS, RemU, And, Or, Xor, Shl, ShrS, ShrU, Rotl, Rotr}
use Rattle.core_types.specs.declared.op.NumericOp.TheVariants.{Binary, Compare, Convert, Eqz, Unary}
use Rattle.core_types.specs.declared.op.Op.TheVariants.{Plain, Block, Loop, If, Else, End}
use Rattle.core_types.specs.declared.op.Op.{Op}
use Rattle.core_types.specs.declared.op.PlainOp.TheVariants.{Control, BrTable, Reference, Parametric, SelectTyped, Variable, Table, Memory, Numeric, I32Const, I64Const}
use Rattle.core_types.specs.declared.op.PlainOp.{PlainOp}
use Rattle.core_types.specs.declared.op.ReferenceOp.TheVariants as reference
use Rattle.core_types.specs.declared.op.ReferenceOp.{ReferenceOp}
use Rattle.core_types.specs.declared.op.VariableOp.TheVariants.{LocalGet, LocalSet, LocalTee, GlobalGet, GlobalSet}
use Rattle.core_types.specs.declared.op.VariableOp.{VariableOp}
use Rattle.core_types.specs.declared.types.FuncType.{FuncType}
use Rattle.core_types.specs.declared.types.GlobalType.{GlobalType}
use Rattle.core_types.specs.declared.types.Mutability.TheVariants.{Const}
use Rattle.core_types.specs.declared.types.OperandType.{OperandType}
use Rattle.core_types.specs.declared.types.OperandType.TheVariants.{Known}
use Rattle.core_types.specs.declared.types.RefType.{RefType}
use Rattle.core_types.specs.declared.types.ValType.TheVariants.{I32}
use Rattle.core_types.specs.declared.types.ValType.{ValType}
use Rattle.meaning.specs.structure.Bodies.{Body, Empty, Then, writing}
use Rattle.meaning.specs.validation.Instructions.{TakesAndGives, HasType, known, Rule}
use Rattle.meaning.specs.validation.Modules.{constant_context, Exists, function_indices, HasDataMode, HasElementMode, HasItemsOfType, IsConstant}
use Rattle.meaning.specs.validation.Modules.{IsConstantExpression, IsValidElement, IsValidStart, type_at}
use Rattle.meaning.specs.validation.Types.{reference_type}
use Rattle.validator.specs.declared.constants.ConstantContext.{ConstantContext}
use Rattle.index_spaces.specs.declared.IndexSpaces.{IndexSpaces}
use Rattle.validator.specs.Constants.{GivesConstant, GivesGlobal, GivesReference, IsConstantContext, IsConstantIn, LeadsToOne, Operates}
use Rattle.meaning.proofs.lemmas.Typing.{AllFit-same}
use Rattle.index_spaces.specs.IndexSpaces.{AreIndexSpaces}
use Rattle.validator.specs.ModuleParts.{AreItemsIn, ExistsIn, IsDataModeIn, IsElementIn, IsElementModeIn, IsStartIn}
use Rattle.validator.specs.References.{HasMarks}

-- That many operands of a type.
abbrev all_of : (t : ValType) (height : ℕ) → List OperandType
all_of t height = known (replicate height t)

all_of-parts : (t : ValType) (m n : ℕ) → all_of t (m + n) ≡ all_of t m ++ all_of t n
all_of-parts t m n = ap (λ (ts : List ValType). known ts) (sym (replicate-append-replicate m n t)) ∙ map-append Known (replicate m t) (replicate n t)

-- One more operand is pushed on that many.
puts_one : (t : ValType) (height : ℕ) → TakesAndGives [] (known (t ∷ [])) (all_of t height) (all_of t (suc height))
puts_one t height =
    let more : suc height ≡ height + 1 = omega (arith) in
    record { below = all_of t height; given = []; before_is = sym (append-nil _); fits = tt; after_is = ap (all_of t) more ∙ all_of-parts t height 1 }

-- Two of that many operands are replaced with one.
takes_two : (t : ValType) (height behind : ℕ) → 2 ≤ height → suc behind ≡ height → TakesAndGives (known (t ∷ t ∷ [])) (known (t ∷ [])) (all_of t height) (all_of t behind)
takes_two t height behind two is =
    let both : height ≡ (height - 2) + 2 = omega (arith, two) in
    let one : behind ≡ (height - 2) + 1 = omega (arith, two, is) in
    record {
      below = all_of t (height - 2);
      given = known (t ∷ t ∷ []);
      before_is = ap (all_of t) both ∙ all_of-parts t (height - 2) 2;
      fits = AllFit-same (known (t ∷ t ∷ []));
      after_is = ap (all_of t) one ∙ all_of-parts t (height - 2) 1;
    }

module _ {m : Module} {s : IndexSpaces} {marks : List Bool} {context : ConstantContext} (spaces : AreIndexSpaces m s) (has_marks : HasMarks m marks)
    (lends : IsConstantContext m marks context) where
  -- A marked function exists.
  function_there : (x : ℕ) → slice_get marks x ≡ Some true → (f : FuncType) × (slice_get (map (type_at m.types) (function_indices m)) x ≡ Some f)
  function_there x set =
      let inside : x < length (function_indices m) = omega (arith, slice_get_within marks x true set, has_marks.one_for_each) in
      let index = get_or (function_indices m) x 0 in
      (type_at m.types index, slice_get-map (type_at m.types) (function_indices m) x ∙ ap (option_map (type_at m.types)) (slice_get-get_or (function_indices m) x 0 inside))

  -- A constant instruction of the rules, which gives one value of the type.
  IsConstantOf : PlainOp → ValType → Type 0
  IsConstantOf op t = IsConstant (constant_context m) (Plain op) × Rule (constant_context m) op [] (known (t ∷ []))

  reference_constant : (op : ReferenceOp) (t : ValType) → GivesReference context op t → IsConstantOf (Reference op) t
  unfolding GivesReference IsConstantOf
  reference_constant (reference.Null r) t h = (tt, (refl, ap (λ (u : ValType). known (u ∷ [])) h))
  reference_constant reference.IsNull t h = absurd h
  reference_constant (reference.Func x) t h =
      let set = rw lends.declared at h.0 in
      let f = function_there x set in
      (tt, (f.0, f.1, has_marks.named x set, (refl, ap (λ (u : ValType). known (u ∷ [])) h.1)))

  global_constant : (op : VariableOp) (t : ValType) → GivesGlobal context op t → IsConstantOf (Variable op) t
  unfolding GivesGlobal IsConstantOf
  global_constant (LocalGet x) t h = absurd h
  global_constant (LocalSet x) t h = absurd h
  global_constant (LocalTee x) t h = absurd h
  global_constant (GlobalGet x) t h =
      let g : GlobalType = record { value = t; mutability = Const } in
      let there = rw lends.globals at h in
      ((g, there, refl), (g, there, (refl, refl)))
  global_constant (GlobalSet x) t h = absurd h

  instruction_constant : (op : PlainOp) (t : ValType) → GivesConstant context op t → IsConstantOf op t
  unfolding GivesConstant IsConstantOf
  instruction_constant (I32Const n) t h = (tt, (h.0, (refl, ap (λ (u : ValType). known (u ∷ [])) h.1)))
  instruction_constant (I64Const n) t h = (tt, (h.0, (refl, ap (λ (u : ValType). known (u ∷ [])) h.1)))
  instruction_constant (Reference op) t h = reference_constant op t h
  instruction_constant (Variable op) t h = global_constant op t h
  instruction_constant (Control op) t h = absurd h
  instruction_constant (BrTable table) t h = absurd h
  instruction_constant (Parametric op) t h = absurd h
  instruction_constant (SelectTyped types) t h = absurd h
  instruction_constant (Table op) t h = absurd h
  instruction_constant (Memory op) t h = absurd h
  instruction_constant (Numeric op) t h = absurd h

  -- An operator of constant expressions, of the rules.
  IsOperatorOf : PlainOp → ValType → Type 0
  IsOperatorOf op t = IsConstant (constant_context m) (Plain op) × Rule (constant_context m) op (known (t ∷ t ∷ [])) (known (t ∷ []))

  operator_constant : (op : PlainOp) (t : ValType) → Operates op t → IsOperatorOf op t
  unfolding Operates IsOperatorOf
  operator_constant (Numeric (Binary width Add)) t h = rw h (tt, (refl, refl))
  operator_constant (Numeric (Binary width Sub)) t h = rw h (tt, (refl, refl))
  operator_constant (Numeric (Binary width Mul)) t h = rw h (tt, (refl, refl))
  operator_constant (Numeric (Binary width DivS)) t h = absurd h
  operator_constant (Numeric (Binary width DivU)) t h = absurd h
  operator_constant (Numeric (Binary width RemS)) t h = absurd h
  operator_constant (Numeric (Binary width RemU)) t h = absurd h
  operator_constant (Numeric (Binary width And)) t h = absurd h
  operator_constant (Numeric (Binary width Or)) t h = absurd h
  operator_constant (Numeric (Binary width Xor)) t h = absurd h
  operator_constant (Numeric (Binary width Shl)) t h = absurd h
  operator_constant (Numeric (Binary width ShrS)) t h = absurd h
  operator_constant (Numeric (Binary width ShrU)) t h = absurd h
  operator_constant (Numeric (Binary width Rotl)) t h = absurd h
  operator_constant (Numeric (Binary width Rotr)) t h = absurd h
  operator_constant (Numeric (Eqz width)) t h = absurd h
  operator_constant (Numeric (Compare width op)) t h = absurd h
  operator_constant (Numeric (Unary width op)) t h = absurd h
  operator_constant (Numeric (Convert op)) t h = absurd h
  operator_constant (I32Const n) t h = absurd h
  operator_constant (I64Const n) t h = absurd h
  operator_constant (Reference op) t h = absurd h
  operator_constant (Variable op) t h = absurd h
  operator_constant (Control op) t h = absurd h
  operator_constant (BrTable table) t h = absurd h
  operator_constant (Parametric op) t h = absurd h
  operator_constant (SelectTyped types) t h = absurd h
  operator_constant (Table op) t h = absurd h
  operator_constant (Memory op) t h = absurd h

  -- The instructions are constant, and the writing of a body that leads from that many operands of the type to one.
  IsBodyFrom : ValType → (height : ℕ) → List Op → Type 0
  IsBodyFrom t height ops =
      (body : Body) × (ops ≡ writing body) × All (IsConstant (constant_context m)) ops × HasType (constant_context m) body (all_of t height) (known (t ∷ []))

  with_instruction : (t : ValType) (height behind : ℕ) (op : PlainOp) (ops : List Op) (operands results : List OperandType)
      → IsConstant (constant_context m) (Plain op) → Rule (constant_context m) op operands results
      → TakesAndGives operands results (all_of t height) (all_of t behind) → IsBodyFrom t behind ops → IsBodyFrom t height (Plain op ∷ ops)
  unfolding IsBodyFrom
  with_instruction t height behind op ops operands results constant rule frame (body, written, all, typed) = (
    Then op body,
    ap (λ (z : List Op). Plain op ∷ z) written,
    All-cons (IsConstant (constant_context m)) (Plain op) ops constant all,
    (operands, results, all_of t behind, rule, frame, typed),
  )

  body_from : (ops : List Op) (t : ValType) (height : ℕ) → LeadsToOne context t height ops → IsBodyFrom t height ops
  unfolding IsBodyFrom IsConstantOf IsOperatorOf
  body_from [] t height one = (Empty, refl, All-nil (IsConstant (constant_context m)), rw one (refl, tt))
  body_from (Plain op ∷ ops) t height (between, inl (gives, is), rest) =
      let constant = instruction_constant op t gives in
      with_instruction t height between op ops [] (known (t ∷ [])) constant.0 constant.1 (rw is (puts_one t height)) (body_from ops t between rest)
  body_from (Plain op ∷ ops) t height (between, inr (operates, two, is), rest) =
      let constant = operator_constant op t operates in
      with_instruction t height between op ops (known (t ∷ t ∷ [])) (known (t ∷ [])) constant.0 constant.1 (takes_two t height between two is) (body_from ops t between rest)
  body_from (Block type ∷ ops) t height leads = absurd leads
  body_from (Loop type ∷ ops) t height leads = absurd leads
  body_from (If type ∷ ops) t height leads = absurd leads
  body_from (Else ∷ ops) t height leads = absurd leads
  body_from (End ∷ ops) t height leads = absurd leads

  expression_constant : (ops : List Op) (t : ValType) → IsConstantIn context ops t → IsConstantExpression (constant_context m) ops t
  unfolding IsBodyFrom
  expression_constant ops t leads =
      let (body, written, all, typed) = body_from ops t 0 leads in
      record { constant = all; body = body; written = written; typed = typed }

  pub globals_valid : (globals : List Global) → All (λ (g : Global). IsConstantIn context g.init g.ty.value) globals
      → All (λ (g : Global). IsConstantExpression (constant_context m) g.init g.ty.value) globals
  globals_valid = All-weaker (λ (g : Global). IsConstantIn context g.init g.ty.value)
      (λ (g : Global). IsConstantExpression (constant_context m) g.init g.ty.value) (λ g. expression_constant g.init g.ty.value)

  items_valid : (t : RefType) (items : ElementItems) → AreItemsIn s context t items → HasItemsOfType m t items
  unfolding AreItemsIn
  items_valid t (Functions indices) h = (h.0, subst (λ (functions : List ℕ). All (λ (x : ℕ). x < length functions) indices) spaces.functions h.1)
  items_valid t (Expressions expressions) h =
      All-weaker (λ (ops : List Op). IsConstantIn context ops (reference_type t))
      (λ (ops : List Op). IsConstantExpression (constant_context m) ops (reference_type t)) (λ ops. expression_constant ops (reference_type t))
      expressions h

  element_mode_valid : (t : RefType) (mode : ElementMode) → IsElementModeIn s context t mode → HasElementMode m t mode
  unfolding IsElementModeIn
  element_mode_valid t Passive h = tt
  element_mode_valid t Declarative h = tt
  element_mode_valid t (Active x offset) h = (h.0, rw spaces.tables at h.1, h.2, expression_constant offset I32 h.3)

  pub elements_valid : (elements : List ElementSegment) → All (IsElementIn s context) elements → All (IsValidElement m) elements
  elements_valid = All-weaker (IsElementIn s context) (IsValidElement m) (λ e h. record { items = items_valid e.ty e.items h.0; mode = element_mode_valid e.ty e.mode h.1 })

  data_mode_valid : (mode : DataMode) → IsDataModeIn s context mode → HasDataMode m mode
  unfolding IsDataModeIn
  data_mode_valid data_mode.Passive h = tt
  data_mode_valid (data_mode.Active x offset) h = (rw spaces.memories at h.0, expression_constant offset I32 h.1)

  pub datas_valid : (datas : List DataSegment) → All (λ (d : DataSegment). IsDataModeIn s context d.mode) datas → All (λ (d : DataSegment). HasDataMode m d.mode) datas
  datas_valid = All-weaker (λ (d : DataSegment). IsDataModeIn s context d.mode) (λ (d : DataSegment). HasDataMode m d.mode) (λ d. data_mode_valid d.mode)

module _ {m : Module} {s : IndexSpaces} (spaces : AreIndexSpaces m s) where
  export_exists : (desc : ExportDesc) → ExistsIn s desc → Exists m desc
  export_exists (export.Func x) h = rw spaces.functions at h
  export_exists (export.Table x) h = rw spaces.tables at h
  export_exists (export.Memory x) h = rw spaces.memories at h
  export_exists (export.Global x) h = rw spaces.globals at h

  pub exports_exist : (exports : List Export) → All (λ (e : Export). ExistsIn s e.desc) exports → All (λ (e : Export). Exists m e.desc) exports
  exports_exist = All-weaker (λ (e : Export). ExistsIn s e.desc) (λ (e : Export). Exists m e.desc) (λ e. export_exists e.desc)

  pub start_valid : (start : Option ℕ) → IsStartIn m.types s start → IsValidStart m start
  unfolding IsStartIn
  start_valid None h = tt
  start_valid (Some x) h =
      let there = slice_get-map (type_at m.types) (function_indices m) x ∙ ap (option_map (type_at m.types)) (rw spaces.functions at h.1) in
      there ∙ ap (λ (found : Option FuncType). Some (unwrap_or found (record { params = []; results = [] }))) h.2
