-- Heights in typed bodies.
use Rattle.std.proofs.Common.{◌≡◌, ℕ, suc, ◌+◌, ◌-◌, ◌≤◌, List, [], ◌∷◌, ◌++◌, length, refl, ap, sym, subst, ◌∙◌, arith, length-append}
use Rattle.std.proofs.lemmas.List.{length-map}
use Rattle.std.specs.Prelude.{Option, Some, None, slice_get}
use Rattle.core_types.specs.declared.op.ControlOp.{ControlOp}
use Rattle.core_types.specs.declared.op.ControlOp.TheVariants.{Unreachable, Nop, Br, BrIf, Return, Call, CallIndirect, ReturnCall, ReturnCallIndirect}
use Rattle.core_types.specs.declared.op.ReferenceOp.{ReferenceOp}
use Rattle.core_types.specs.declared.op.ReferenceOp.TheVariants as reference
use Rattle.core_types.specs.declared.op.ParametricOp.{ParametricOp}
use Rattle.core_types.specs.declared.op.ParametricOp.TheVariants.{DropOperand, Select}
use Rattle.core_types.specs.declared.op.VariableOp.{VariableOp}
use Rattle.core_types.specs.declared.op.VariableOp.TheVariants.{LocalGet, LocalSet, LocalTee, GlobalGet, GlobalSet}
use Rattle.core_types.specs.declared.op.NumericOp.{NumericOp}
use Rattle.core_types.specs.declared.op.NumericOp.TheVariants.{Eqz, Compare, Unary, Binary, Convert}
use Rattle.core_types.specs.declared.op.Conversion.TheVariants.{I32WrapI64, I64ExtendI32S, I64ExtendI32U, I64Extend32S}
use Rattle.core_types.specs.declared.op.TableOp.{TableOp}
use Rattle.core_types.specs.declared.op.TableOp.TheVariants as table
use Rattle.core_types.specs.declared.op.MemoryOp.{MemoryOp}
use Rattle.core_types.specs.declared.op.MemoryOp.TheVariants as memory
use Rattle.core_types.specs.declared.op.PlainOp.{PlainOp}
use Rattle.core_types.specs.declared.op.PlainOp.TheVariants.{Control, BrTable, Reference, Parametric, SelectTyped, Variable, Table, Memory, Numeric, I32Const, I64Const}
use Rattle.core_types.specs.declared.types.FuncType.{FuncType}
use Rattle.core_types.specs.declared.types.OperandType.{OperandType}
use Rattle.meaning.specs.structure.Bodies.{Body, Kind, BlockKind, LoopKind, IfKind, Empty, Then, Nested, IfElse}
use Rattle.meaning.specs.validation.Context.{Context}
use Rattle.meaning.specs.validation.Instructions.{AllFit, TakesAndGives, HasFuncType, HasType, Rule, condition_of, control_rule, known, memory_rule}
use Rattle.meaning.specs.validation.Instructions.{numeric_instruction_type, parametric_rule, reference_rule, table_rule, variable_rule}
use Rattle.meaning.specs.validation.Types.{block_type}
use Rattle.sidetable.specs.Counts.{Signatures, behind, block_counts, changed, control_counts, counts_of, memory_counts, numeric_counts, parametric_counts}
use Rattle.sidetable.specs.Counts.{reference_counts, table_counts, variable_counts}
use Rattle.sidetable.specs.declared.counts.Counts.{Counts}
use Rattle.sidetable.specs.Flat.{behind_height, inside_height}
use Rattle.simulation.specs.Standing.{EndsAt, conditions, last_height}

-- An instruction with these counts can take the operands and give the results.
abbrev pub Counted : Option Counts → List OperandType → List OperandType → Type 0
Counted None operands results = Unit {0}
Counted (Some c) operands results = (c.takes ≤ length operands) × (length operands - c.takes + c.gives ≡ length results)

module _ (operands results : List OperandType) where
  -- Exactly this many.
  exactly : (takes gives : ℕ) → length operands ≡ takes → length results ≡ gives → (takes ≤ length operands) × (length operands - takes + gives ≡ length results)
  exactly takes gives first second = (omega arith, omega arith)

  module _ (context : Context) where
    numeric-counted : (op : NumericOp) → HasFuncType (numeric_instruction_type op) operands results → Counted (Some (numeric_counts op)) operands results
    numeric-counted (Eqz width) type = exactly _ _ (ap length type.0) (ap length type.1)
    numeric-counted (Compare width op) type = exactly _ _ (ap length type.0) (ap length type.1)
    numeric-counted (Unary width op) type = exactly _ _ (ap length type.0) (ap length type.1)
    numeric-counted (Binary width op) type = exactly _ _ (ap length type.0) (ap length type.1)
    numeric-counted (Convert I32WrapI64) type = exactly _ _ (ap length type.0) (ap length type.1)
    numeric-counted (Convert I64ExtendI32S) type = exactly _ _ (ap length type.0) (ap length type.1)
    numeric-counted (Convert I64ExtendI32U) type = exactly _ _ (ap length type.0) (ap length type.1)
    numeric-counted (Convert I64Extend32S) type = exactly _ _ (ap length type.0) (ap length type.1)

    reference-counted : (op : ReferenceOp) → reference_rule context op operands results → Counted (Some (reference_counts op)) operands results
    reference-counted (reference.Null t) type = exactly _ _ (ap length type.0) (ap length type.1)
    reference-counted reference.IsNull (t, type) = exactly _ _ (ap length type.0) (ap length type.1)
    reference-counted (reference.Func x) (f, is, named, type) = exactly _ _ (ap length type.0) (ap length type.1)

    parametric-counted : (op : ParametricOp) → parametric_rule op operands results → Counted (Some (parametric_counts op)) operands results
    parametric-counted DropOperand (t, takes, gives) = rw (takes, gives) (omega arith, refl)
    parametric-counted Select (t, number, takes, gives) = rw (takes, gives) (omega arith, refl)

    variable-counted : (op : VariableOp) → variable_rule context op operands results → Counted (Some (variable_counts op)) operands results
    variable-counted (LocalGet x) (t, is, type) = exactly _ _ (ap length type.0) (ap length type.1)
    variable-counted (LocalSet x) (t, is, type) = exactly _ _ (ap length type.0) (ap length type.1)
    variable-counted (LocalTee x) (t, is, type) = exactly _ _ (ap length type.0) (ap length type.1)
    variable-counted (GlobalGet x) (t, is, type) = exactly _ _ (ap length type.0) (ap length type.1)
    variable-counted (GlobalSet x) (t, is, var, type) = exactly _ _ (ap length type.0) (ap length type.1)

    table-counted : (op : TableOp) → table_rule context op operands results → Counted (Some (table_counts op)) operands results
    table-counted (table.Get x) (t, is, type) = exactly _ _ (ap length type.0) (ap length type.1)
    table-counted (table.Set x) (t, is, type) = exactly _ _ (ap length type.0) (ap length type.1)
    table-counted (table.Size x) (t, is, type) = exactly _ _ (ap length type.0) (ap length type.1)
    table-counted (table.Grow x) (t, is, type) = exactly _ _ (ap length type.0) (ap length type.1)
    table-counted (table.Fill x) (t, is, type) = exactly _ _ (ap length type.0) (ap length type.1)
    table-counted (table.Copy target source) (t, is, other, type) = exactly _ _ (ap length type.0) (ap length type.1)
    table-counted (table.Init segment x) (t, is, other, type) = exactly _ _ (ap length type.0) (ap length type.1)
    table-counted (table.ElemDrop segment) (t, is, type) = exactly _ _ (ap length type.0) (ap length type.1)

    memory-counted : (op : MemoryOp) → memory_rule context op operands results → Counted (Some (memory_counts op)) operands results
    memory-counted (memory.Load op argument) (is, aligned, type) = exactly _ _ (ap length type.0) (ap length type.1)
    memory-counted (memory.Store op argument) (is, aligned, type) = exactly _ _ (ap length type.0) (ap length type.1)
    memory-counted memory.Size (is, type) = exactly _ _ (ap length type.0) (ap length type.1)
    memory-counted memory.Grow (is, type) = exactly _ _ (ap length type.0) (ap length type.1)
    memory-counted memory.Fill (is, type) = exactly _ _ (ap length type.0) (ap length type.1)
    memory-counted memory.Copy (is, type) = exactly _ _ (ap length type.0) (ap length type.1)
    memory-counted (memory.Init segment) (is, inside, type) = exactly _ _ (ap length type.0) (ap length type.1)
    memory-counted (memory.DataDrop segment) (inside, type) = exactly _ _ (ap length type.0) (ap length type.1)

    module _ (s : Signatures) (types : context.types ≡ s.types) (functions : context.functions ≡ s.functions) where
      control-counted : (op : ControlOp) → control_rule context op operands results → Counted (control_counts s op) operands results
      control-counted Unreachable rule = tt
      control-counted Nop type = exactly _ _ (ap length type.0) (ap length type.1)
      control-counted (Br label) rule = tt
      control-counted (BrIf label) (carried, is, type) =
          let first : length operands ≡ length carried + 1 = ap length type.0 ∙ simp (length-map, length-append) in
          let second : length results ≡ length carried = ap length type.1 ∙ simp length-map in
          (omega arith, omega arith)
      control-counted Return rule = tt
      control-counted (Call x) (f, is, type) =
          let there : slice_get s.functions x ≡ Some f = rw functions at is in
          rw there (exactly (length f.params) (length f.results) (ap length type.0 ∙ simp length-map) (ap length type.1 ∙ simp length-map))
      control-counted (CallIndirect y x) (f, is, of_functions, type) =
          let there : slice_get s.types y ≡ Some f = rw types at is in
          let first : length operands ≡ suc (length f.params) = ap length type.0 ∙ simp (length-map, length-append) (omega arith) in
          rw there (exactly (suc (length f.params)) (length f.results) first (ap length type.1 ∙ simp length-map))
      control-counted (ReturnCall x) rule = tt
      control-counted (ReturnCallIndirect y x) rule = tt

      pub counted : (op : PlainOp) → Rule context op operands results → Counted (counts_of s op) operands results
      counted (Control op) rule = control-counted op rule
      counted (BrTable t) rule = tt
      counted (Reference op) rule = reference-counted op rule
      counted (Parametric op) rule = parametric-counted op rule
      counted (SelectTyped u) (t, is, type) = exactly _ _ (ap length type.0) (ap length type.1)
      counted (Variable op) rule = variable-counted op rule
      counted (Table op) rule = table-counted op rule
      counted (Memory op) rule = memory-counted op rule
      counted (Numeric op) rule = numeric-counted op rule
      counted (I32Const n) (fits, type) = exactly _ _ (ap length type.0) (ap length type.1)
      counted (I64Const n) (fits, type) = exactly _ _ (ap length type.0) (ap length type.1)

-- ---- bodies

pub fits-length : (ts us : List OperandType) → AllFit ts us → length ts ≡ length us
fits-length [] [] fits = refl
fits-length [] (u ∷ us) fits = absurd fits
fits-length (t ∷ ts) [] fits = absurd fits
fits-length (t ∷ ts) (u ∷ us) fits = ap suc (fits-length ts us fits.1)

behind-none : (c : Option Counts) → behind c None ≡ None
behind-none None = refl
behind-none (Some c) = refl

pub last-none : (s : Signatures) (body : Body) → last_height s None body ≡ None
last-none s Empty = refl
last-none s (Then op rest) = rw (behind-none (counts_of s op)) (last-none s rest)
last-none s (Nested BlockKind type inner rest) = last-none s rest
last-none s (Nested LoopKind type inner rest) = last-none s rest
last-none s (Nested IfKind type inner rest) = last-none s rest
last-none s (IfElse type inner other rest) = last-none s rest

-- The height within a block that is reached, and after it.
pub inside-known : (kind : Kind) (h : ℕ) → inside_height kind (Some h) ≡ Some (h - conditions kind)
inside-known BlockKind h = let same : h ≡ h - 0 = omega arith in ap Some same
inside-known LoopKind h = let same : h ≡ h - 0 = omega arith in ap Some same
inside-known IfKind h = refl

pub behind-known : (kind : Kind) (c : Counts) (h : ℕ) → behind_height kind c (Some h) ≡ Some (h - conditions kind - c.takes + c.gives)
behind-known kind c h = ap (changed c) (inside-known kind h)

pub conditions-count : (kind : Kind) → length (condition_of kind) ≡ conditions kind
conditions-count BlockKind = refl
conditions-count LoopKind = refl
conditions-count IfKind = refl

module _ (context : Context) (s : Signatures) (types : context.types ≡ s.types) (functions : context.functions ≡ s.functions) where
  framed-length : (operands results before after : List OperandType) → TakesAndGives operands results before after → (n : ℕ)
      × (length before ≡ n + length operands) × (length after ≡ n + length results)
  framed-length operands results before after frame = (
    length frame.below,
    ap length frame.before_is ∙ length-append frame.below frame.given ∙ ap (λ (n : ℕ). length frame.below + n) (fits-length frame.given operands frame.fits),
    ap length frame.after_is ∙ length-append frame.below results,
  )

  -- After an instruction.
  behind-counts : (u : ℕ) (operands results before between : List OperandType) (c : Option Counts) → Counted c operands results → TakesAndGives operands results before between
      → (goal : Option ℕ → Type 0) → goal None → ((h : ℕ) → h ≡ u + length between → goal (Some h)) → (h : ℕ) → h ≡ u + length before → goal (behind c (Some h))
  behind-counts u operands results before between None counted frame goal none some h is = none
  behind-counts u operands results before between (Some c) counted frame goal none some h is =
      let (n, first, second) = framed-length operands results before between frame in
      some (h - c.takes + c.gives) (omega (arith, counted.0, counted.1, first, second, is))

  pub behind-block : (u : ℕ) (kind : Kind) (t : FuncType) (before between : List OperandType) → TakesAndGives (known (t.params ++ condition_of kind)) (known t.results) before between
      → (h : ℕ) → h ≡ u + length before → (conditions kind + length t.params ≤ h) × (h - conditions kind - length t.params + length t.results ≡ u + length between)
  behind-block u kind t before between frame h is =
      let (n, first, second) = framed-length _ _ before between frame in
      let operands : length (known (t.params ++ condition_of kind))
      ≡ length t.params + conditions kind = rw (length-map, length-append) (ap (λ (m : ℕ). length t.params + m) (conditions-count kind)) in
      let results : length (known t.results) ≡ length t.results = rw length-map refl in
      (omega (arith, operands, results, first, second, is), omega (arith, operands, results, first, second, is))

-- At the end of a typed body the height is that of its results.
pub last-typed : (context : Context) (s : Signatures) (types : context.types ≡ s.types) (functions : context.functions ≡ s.functions) (u : ℕ)
    (body : Body) (before after : List OperandType) → HasType context body before after
    → (h : ℕ) → h ≡ u + length before → EndsAt (last_height s (Some h) body) (u + length after)
last-typed context s types functions u Empty before after fits h is = is ∙ ap (λ (n : ℕ). u + n) (fits-length before after fits)
last-typed context s types functions u (Then op rest) before after (operands, results, between, rule, frame, last) h is =
    behind-counts context s types functions u operands results before between (counts_of s op) (counted operands results context s types functions op rule) frame
    (λ next. EndsAt (last_height s next rest) (u + length after)) (rw (last-none s rest) tt)
    (λ next next_is. last-typed context s types functions u rest between after last next next_is) h is
last-typed context s types functions u (Nested kind type inner rest) before after (t, between, found, inside, other, frame, last) h is =
    let there : block_type s.types type ≡ Some t = rw types at found in
    subst (λ (x : Option ℕ). EndsAt (last_height s x rest) (u + length after)) (sym (behind-known kind (block_counts s type) h))
    (rw there (last-typed context s types functions u rest between after last _ (behind-block context s types functions u kind t before between frame h is).1))
last-typed context s types functions u (IfElse type inner other rest) before after (t, between, found, inside, second, frame, last) h is =
    let there : block_type s.types type ≡ Some t = rw types at found in
    rw there (last-typed context s types functions u rest between after last _ (behind-block context s types functions u IfKind t before between frame h is).1)
