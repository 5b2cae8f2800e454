-- Instructions after typed values have good steps.
use Rattle.std.proofs.Common.{◌≡◌, ℕ, zero, suc, ◌<◌, ◌≤◌, List, [], ◌∷◌, ◌++◌, Bool, true, false, length, take, reverse, Option, Some, None, refl, ap, subst}
use Rattle.std.proofs.Common.{◌∙◌, arith, slice_get, if◌then◌else◌, inl, inr}
use Rattle.std.proofs.lemmas.List.{append-nil, length-append, length-reverse, map-append, reverse-append, reverse-reverse}
use Rattle.std.proofs.lemmas.Option.{slice_get_cases}
use Rattle.core_types.specs.declared.op.BlockType.{BlockType}
use Rattle.core_types.specs.declared.op.ControlOp.{ControlOp}
use Rattle.core_types.specs.declared.op.ControlOp.TheVariants.{Unreachable, Nop, Br, BrIf, Return, Call, CallIndirect, ReturnCall, ReturnCallIndirect}
use Rattle.core_types.specs.declared.op.PlainOp.{PlainOp}
use Rattle.core_types.specs.declared.op.PlainOp.TheVariants.{Control, BrTable, Reference, Parametric, SelectTyped, Variable, Table, Memory, Numeric, I32Const, I64Const}
use Rattle.core_types.specs.declared.outcome.Trap.TheVariants.{IndirectType}
use Rattle.core_types.specs.declared.outcome.Val.{Val}
use Rattle.core_types.specs.declared.outcome.Val.TheVariants.{I32, I64, FuncRef, ExternRef}
use Rattle.core_types.specs.declared.types.FuncType.{FuncType}
use Rattle.core_types.specs.declared.types.OperandType.{OperandType}
use Rattle.core_types.specs.declared.types.OperandType.TheVariants.{Known}
use Rattle.core_types.specs.declared.types.RefType.{RefType}
use Rattle.core_types.specs.declared.types.RefType.TheVariants as ref
use Rattle.core_types.specs.declared.types.TableType.{TableType}
use Rattle.core_types.specs.declared.types.ValType.{ValType}
use Rattle.core_types.specs.declared.types.ValType.TheVariants as ty
use Rattle.meaning.specs.structure.Bodies.{Body, Empty, Then, Nested, IfElse, Kind, BlockKind, LoopKind, IfKind}
use Rattle.meaning.specs.execution.Configurations.{Frame, InLabel, Running, continue_with}
use Rattle.meaning.specs.execution.Costs.{instruction_cost}
use Rattle.meaning.specs.execution.Effects.{Done, memory_or_data_effect, numeric_effect, parametric_effect, reference_effect, select_operand, table_at, table_or_elements_effect, variable_effect}
use Rattle.meaning.specs.execution.Instructions.{Next, Goes, NotReady, TailCalls, Traps, call_entry, call_function, call_of_type, call_through, choose_body}
use Rattle.meaning.specs.execution.Instructions.{continuation_of, enter_label, label_of, lent_memory, step_instruction, step_sequence}
use Rattle.meaning.specs.execution.Store.{FunctionInstance, Store, instance_of}
use Rattle.meaning.specs.soundness.Values.{ValueHasType, ValuesHaveTypes}
use Rattle.meaning.specs.validation.Context.{with_label}
use Rattle.meaning.specs.validation.Instructions.{TakesAndGives, HasType, IsTable, Rule, control_rule, known, numeric_instruction_type}
use Rattle.meaning.specs.validation.Types.{block_type, function_type, is_same_function_type, label_types, reference_type}
use Rattle.meaning.proofs.lemmas.Layers.{if-at-most}
use Rattle.meaning.proofs.lemmas.SameTypes.{same-function-type}
use Rattle.meaning.proofs.lemmas.Typing.{AllFit-same}
use Rattle.soundness.specs.Configurations.{FrameHasPlace, IsGood}
use Rattle.soundness.specs.Places.{Place, RunsOn, context_at, inside_label}
use Rattle.soundness.specs.Stores.{StoreIsValid, TableIsValid}
use Rattle.soundness.proofs.Calls.{function-called}
use Rattle.soundness.proofs.Control.{branches-by-table, branches-if, does, types-on-top}
use Rattle.soundness.proofs.Effects.{Follows-same, numeric-good, stays}
use Rattle.soundness.proofs.Extension.{instance-valid, types-found}
use Rattle.soundness.proofs.Locals.{parametric-works, reference-works, selects}
use Rattle.soundness.proofs.Memories.{memory-works}
use Rattle.soundness.proofs.Operands.{i32-on-top, known-fits, known-same, operands-on-top}
use Rattle.soundness.proofs.Tables.{table-works}
use Rattle.soundness.proofs.Values.{All-at, values-length, values-parts}
use Rattle.soundness.proofs.Variables.{variable-works}

module _ (store : Store) (valid : StoreIsValid store) (place : Place) (frame : Frame) (own : FrameHasPlace store frame place) (results : List ValType) where
  -- ---- calls of functions of a table

  -- The step of a function of the store that has this type.
  abbrev Calls : FuncType → (call : FunctionInstance → Next) → Type 0
  Calls f call = (address : ℕ) (g : FunctionInstance) → g.ty ≡ f → slice_get store.functions address ≡ Some g → IsGood store place results (call g)

  module _ (f : FuncType) (call : FunctionInstance → Next) (calls : Calls f call) where
    of-type : (address : ℕ) → address < length store.functions → IsGood store place results (call_of_type call f (slice_get store.functions address))
    of-type address inside = by (slice_get store.functions address) refl
      where
        tested : (g : FunctionInstance) → slice_get store.functions address ≡ Some g → (b : Bool) → is_same_function_type g.ty f ≡ b
            → IsGood store place results (if b then call g else Traps instruction_cost IndirectType)
        tested g is true same = calls address g (same-function-type g.ty f same) is
        tested g is false same = tt

        by : (o : Option FunctionInstance) → slice_get store.functions address ≡ o → IsGood store place results (call_of_type call f o)
        by None is = elim (slice_get_cases store.functions address).1 [ inl w ↦ absurd cc | inr w ↦ let wrong : ⊥ = omega (arith, inside, w.0) in absurd wrong ]
        by (Some g) is = tested g is (is_same_function_type g.ty f) refl

    of-entry : (entry : Option Val) → ((v : Val) → entry ≡ Some v → ValueHasType store v ty.FuncRef) → IsGood store place results (call_entry store call f entry)
    of-entry None fits = tt
    of-entry (Some (FuncRef None)) fits = tt
    of-entry (Some (FuncRef (Some address))) fits = of-type address (fits (FuncRef (Some address)) refl).1
    of-entry (Some (I32 n)) fits = let wrong = fits (I32 n) refl in absurd cc
    of-entry (Some (I64 n)) fits = let wrong = fits (I64 n) refl in absurd cc
    of-entry (Some (ExternRef x)) fits = let wrong = fits (ExternRef x) refl in absurd cc

  calls-through : (type x : ℕ) (f : FuncType) → slice_get (context_at store place).types type ≡ Some f → IsTable (context_at store place) x ref.FuncRef
      → (values : List Val) (below : List ValType) → ValuesHaveTypes store values (reverse (f.params ++ ty.I32 ∷ []) ++ below)
      → (call : List Val → FunctionInstance → Next) → ((under : List Val) → ValuesHaveTypes store under (reverse f.params ++ below) → Calls f (call under))
      → IsGood store place results (call_through store call (slice_get (instance_of store frame.instance).types type) (table_at store frame x) values)
  calls-through type x f is (table_type, there, element) values below typed call calls =
      let (address, table, at, held, same) = types-found _ _ store.tables (instance_of store place.instance).tables x table_type (instance-valid store valid place.instance).tables there in
      let of_functions : table.ty.element ≡ ref.FuncRef = ap (λ (u : TableType). u.element) same ∙ element in
      let table_valid = All-at (TableIsValid store) store.tables address table held valid.tables in
      let (i, others, top, fits, left) = i32-on-top store values (reverse f.params ++ below) (rw (reverse-append f.params (ty.I32 ∷ [])) at typed) in
      rw (top, own.0, is, at, held)
      (of-entry f (call others) (calls others left) (slice_get table.entries i)
      (λ v entry. subst (λ (u : RefType). ValueHasType store v (reference_type u)) of_functions
      (All-at (λ (w : Val). ValueHasType store w (reference_type table.ty.element)) table.entries i v entry table_valid.entries)))

  -- A tail call of a function whose results are the frame's.
  tail-called : (f : FuncType) → place.results ≡ Some f.results → (lent : Option ℕ) (values : List Val) (below : List ValType) → ValuesHaveTypes store values (reverse f.params ++ below)
      → Calls f (λ g. TailCalls lent g values)
  tail-called f is lent values below typed address g same held = (address, held, rw same is, (below, rw same typed))

  -- ---- blocks

  enters : (kind : Kind) (type : BlockType) (s : FuncType) (inside rest : Body) (values : List Val) (below : List ValType) → ValuesHaveTypes store values (reverse s.params ++ below)
      → HasType (with_label (context_at store place) (label_types kind s)) inside (known s.params) (known s.results)
      → RunsOn store place rest (reverse s.results ++ below) results
      → RunsOn store place (continue_with (continuation_of kind type inside) rest) (reverse (label_types kind s) ++ below) results
      → IsGood store place results (enter_label store frame kind type (Some s) inside values rest)
  enters kind type s inside rest values below typed inner onward again =
      let parts = rw (length-reverse s.params) at (values-parts store values (reverse s.params) below typed) in
      let enough : length s.params ≤ length values = omega (arith, values-length store values (reverse s.params ++ below) typed, length-append (reverse s.params) below, length-reverse s.params) in
      let runs : RunsOn store (inside_label place (label_types kind s)) inside (reverse s.params) s.results = rw (reverse-reverse s.params) inner in
      rw (if-at-most (length s.params) (length values)
      (Goes instruction_cost store frame (InLabel (label_of kind type s inside values rest) (Running (take (length s.params) values) inside))) NotReady enough)
      (Follows-same store, valid, own, (below, s.results, label_types kind s, refl, parts.1, (reverse s.params, parts.0, runs), onward, again))

  -- A loop again, on the values that a branch to it carries.
  again-typed : (kind : Kind) (type : BlockType) (s : FuncType) (inside rest : Body) (below : List ValType) → block_type (context_at store place).types type ≡ Some s
      → HasType (with_label (context_at store place) (label_types kind s)) inside (known s.params) (known s.results)
      → RunsOn store place rest (reverse s.results ++ below) results
      → RunsOn store place (continue_with (continuation_of kind type inside) rest) (reverse (label_types kind s) ++ below) results
  again-typed BlockKind type s inside rest below is inner onward = onward
  again-typed LoopKind type s inside rest below is inner onward = (
    s,
    known (reverse (reverse s.results ++ below)),
    is,
    inner,
    tt,
    record {
      below = known (reverse below);
      given = known s.params;
      before_is = known-split s.params below;
      fits = rw (append-nil s.params) (AllFit-same (known s.params));
      after_is = known-split s.results below;
    },
    onward,
  )
    where
      known-split : (ts below : List ValType) → known (reverse (reverse ts ++ below)) ≡ known (reverse below) ++ known ts
      known-split ts below =
          ap (λ (z : List ValType). known z) (reverse-append (reverse ts) below ∙ ap (λ (z : List ValType). reverse below ++ z) (reverse-reverse ts)) ∙ map-append Known (reverse below) ts
  again-typed IfKind type s inside rest below is inner onward = onward

  -- ---- one instruction

  module _ (rest : Body) (values : List Val) (stack : List ValType) (typed : ValuesHaveTypes store values stack) (operands given between : List OperandType)
      (frames : TakesAndGives operands given (known (reverse stack)) between) (runs : HasType (context_at store place) rest between (known results)) where
    controls : (op : ControlOp) → control_rule (context_at store place) op operands given → IsGood store place results (step_instruction store frame (Control op) values rest)
    controls Unreachable rule = tt
    controls Nop type =
        does store place frame valid own rest results (λ vs. Done instruction_cost store frame.locals vs) values stack operands given between typed
        (λ known_types is. (function_type [] [], type, λ vs below vs_typed. stays store valid place frame own instruction_cost vs below vs_typed)) frames runs
    controls (Br label) (below, types, is, operands_are) =
        let (under, stack_is) = types-on-top stack operands given between frames below types operands_are in
        (types, is, (under, rw stack_is at typed))
    controls (BrIf label) (types, is, type) =
        let (below, stack_is, between_is) = operands-on-top stack (function_type (types ++ ty.I32 ∷ []) types) operands given between type frames in
        branches-if store place frame rest results values stack typed valid own label types is below stack_is (rw between_is at runs)
    controls Return (below, types, is, operands_are) =
        let (under, stack_is) = types-on-top stack operands given between frames below types operands_are in
        (types, is, (under, rw stack_is at typed))
    controls (Call x) (f, there, type) =
        let (below, stack_is, between_is) = operands-on-top stack f operands given between type frames in
        let (address, g, at, held, same) = types-found _ _ store.functions (instance_of store place.instance).functions x f (instance-valid store valid place.instance).functions there in
        rw (own.0, at, held)
        (function-called store valid place f values below (rw stack_is at typed) rest results (rw between_is at runs) instruction_cost
        (slice_get (instance_of store place.instance).memories 0) address g same held)
    controls (CallIndirect y x) (f, is, table, type) =
        let (below, stack_is, between_is) = operands-on-top stack (function_type (f.params ++ ty.I32 ∷ []) f.results) operands given between type frames in
        calls-through y x f is table values below (rw stack_is at typed) (λ under g. call_function instruction_cost store (lent_memory store frame) (Some g) under rest)
        (λ under left. function-called store valid place f under below left rest results (rw between_is at runs) instruction_cost (lent_memory store frame))
    controls (ReturnCall x) (f, below, there, same_results, operands_are) =
        let (under, stack_is) = types-on-top stack operands given between frames below f.params operands_are in
        let (address, g, at, held, same) = types-found _ _ store.functions (instance_of store place.instance).functions x f (instance-valid store valid place.instance).functions there in
        rw (own.0, at, held) (tail-called f same_results (slice_get (instance_of store place.instance).memories 0) values under (rw stack_is at typed) address g same held)
    controls (ReturnCallIndirect y x) (f, below, is, table, same_results, operands_are) =
        let (under, stack_is) = types-on-top stack operands given between frames below (f.params ++ ty.I32 ∷ []) operands_are in
        calls-through y x f is table values under (rw stack_is at typed) (λ others g. TailCalls (lent_memory store frame) g others)
        (λ others left. tail-called f same_results (lent_memory store frame) others under left)

    pub instructions : (op : PlainOp) → Rule (context_at store place) op operands given → IsGood store place results (step_instruction store frame op values rest)
    instructions (Control op) rule = controls op rule
    instructions (BrTable table) rule = branches-by-table store place frame rest results values stack typed table operands given between rule frames
    instructions (Reference op) rule = does store place frame valid own rest results (reference_effect store frame op) values stack operands given
        between typed (reference-works store valid place frame own op operands given rule) frames runs
    instructions (Parametric op) rule = does store place frame valid own rest results (parametric_effect store frame op) values stack operands given
        between typed (parametric-works store valid place frame own op operands given rule) frames runs
    instructions (SelectTyped types) (t, is, type) =
        does store place frame valid own rest results (select_operand store frame) values stack operands given between typed
        (λ known_types operands_are. (function_type (t ∷ t ∷ ty.I32 ∷ []) (t ∷ []), type, selects store valid place frame own t)) frames runs
    instructions (Variable op) rule = does store place frame valid own rest results (variable_effect store frame op) values stack operands given
        between typed (variable-works store valid place frame own op operands given rule) frames runs
    instructions (Table op) rule = does store place frame valid own rest results (table_or_elements_effect store frame op) values stack operands given
        between typed (table-works store valid place frame own op operands given rule) frames runs
    instructions (Memory op) rule = does store place frame valid own rest results (memory_or_data_effect store frame op) values stack operands given
        between typed (memory-works store valid place frame own op operands given rule) frames runs
    instructions (Numeric op) type =
        does store place frame valid own rest results (numeric_effect store frame op) values stack operands given between typed
        (λ known_types is. (numeric_instruction_type op, type, numeric-good store valid place frame own op)) frames runs
    instructions (I32Const n) (fits, type) =
        does store place frame valid own rest results (λ vs. Done instruction_cost store frame.locals (I32 n ∷ vs)) values stack operands given between typed
        (λ known_types is. (
          function_type [] (ty.I32 ∷ []),
          type,
          λ vs below vs_typed.
              stays store valid place frame own instruction_cost (I32 n ∷ vs) (ty.I32 ∷ below) ((refl, fits), vs_typed),
        )) frames runs
    instructions (I64Const n) (fits, type) =
        does store place frame valid own rest results (λ vs. Done instruction_cost store frame.locals (I64 n ∷ vs)) values stack operands given between typed
        (λ known_types is. (
          function_type [] (ty.I64 ∷ []),
          type,
          λ vs below vs_typed.
              stays store valid place frame own instruction_cost (I64 n ∷ vs) (ty.I64 ∷ below) ((refl, fits), vs_typed),
        )) frames runs

  -- ---- sequences

  in-frame : (type : BlockType) (s : FuncType) → block_type (context_at store place).types type ≡ Some s → block_type (instance_of store frame.instance).types type ≡ Some s
  in-frame type s is = rw own.0 is

  -- An if with both of its bodies, on values with the condition on top.
  chooses : (type : BlockType) (s : FuncType) (inner other rest : Body) (values : List Val) (below : List ValType) → ValuesHaveTypes store values (reverse (s.params ++ ty.I32 ∷ []) ++ below)
      → block_type (context_at store place).types type ≡ Some s
      → HasType (with_label (context_at store place) s.results) inner (known s.params) (known s.results)
      → HasType (with_label (context_at store place) s.results) other (known s.params) (known s.results)
      → RunsOn store place rest (reverse s.results ++ below) results → IsGood store place results (choose_body store frame type inner other values rest)
  chooses type s inner other rest values below typed is inner_typed other_typed onward =
      let (n, others, top, fits, left) = i32-on-top store values (reverse s.params ++ below) (rw (reverse-append s.params (ty.I32 ∷ [])) at typed) in
      rw top (by n others left)
    where
      by : (n : ℕ) (others : List Val) → ValuesHaveTypes store others (reverse s.params ++ below) → IsGood store place results (choose_body store frame type inner other (I32 n ∷ others) rest)
      by zero others left = rw (in-frame type s is) (enters IfKind type s other rest others below left other_typed onward onward)
      by (suc n) others left = rw (in-frame type s is) (enters IfKind type s inner rest others below left inner_typed onward onward)

  pub sequences : (rest : Body) (values : List Val) (stack : List ValType) → ValuesHaveTypes store values stack
      → RunsOn store place rest stack results → IsGood store place results (step_sequence store frame values rest)
  sequences Empty values stack typed runs =
      let same : known results ≡ known (reverse stack) = known-fits (reverse stack) (known results) runs in
      let results_are : results ≡ reverse stack = known-same results (reverse stack) same in
      rw (results_are, reverse-reverse stack) typed
  sequences (Then op rest) values stack typed (operands, given, between, rule, frames, runs) = instructions rest values stack typed operands given between frames runs op rule
  sequences (Nested BlockKind type inner rest) values stack typed (s, between, is, inside, fits, frames, runs) =
      let (below, stack_is, between_is) = operands-on-top stack s _ _ between (ap (λ (z : List ValType). known z) (append-nil s.params), refl) frames in
      let onward = rw between_is at runs in
      rw (in-frame type s is) (enters BlockKind type s inner rest values below (rw stack_is at typed) inside onward onward)
  sequences (Nested LoopKind type inner rest) values stack typed (s, between, is, inside, fits, frames, runs) =
      let (below, stack_is, between_is) = operands-on-top stack s _ _ between (ap (λ (z : List ValType). known z) (append-nil s.params), refl) frames in
      let onward = rw between_is at runs in
      rw (in-frame type s is) (enters LoopKind type s inner rest values below (rw stack_is at typed) inside onward (again-typed LoopKind type s inner rest below is inside onward))
  sequences (Nested IfKind type inner rest) values stack typed (s, between, is, inside, fits, frames, runs) =
      let (below, stack_is, between_is) = operands-on-top stack (function_type (s.params ++ ty.I32 ∷ []) s.results) _ _ between (refl, refl) frames in
      let empty : HasType (with_label (context_at store place) s.results) Empty (known s.params) (known s.results) = rw fits (AllFit-same (known s.results)) in
      chooses type s inner Empty rest values below (rw stack_is at typed) is inside empty (rw between_is at runs)
  sequences (IfElse type inner other rest) values stack typed (s, between, is, inside, alternative, frames, runs) =
      let (below, stack_is, between_is) = operands-on-top stack (function_type (s.params ++ ty.I32 ∷ []) s.results) _ _ between (refl, refl) frames in
      chooses type s inner other rest values below (rw stack_is at typed) is inside alternative (rw between_is at runs)
