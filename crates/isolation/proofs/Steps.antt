-- The next steps in two stores that agree within a region are the same, within it.
use Rattle.std.proofs.Common.{◌≡◌, ℕ, zero, suc, List, ◌∷◌, ◌++◌, length, map, take, drop, Option, Some, None, Bool, true, false, refl, ap, sym, subst, ◌∙◌, slice_get}
use Rattle.std.specs.Prelude.{nat_le, if◌then◌else◌}
use Rattle.core_types.specs.declared.op.BlockType.{BlockType}
use Rattle.core_types.specs.declared.op.BranchTable.{BranchTable}
use Rattle.core_types.specs.declared.op.ControlOp.TheVariants.{Br, BrIf, Return, Call, CallIndirect, ReturnCall, ReturnCallIndirect}
use Rattle.core_types.specs.declared.op.PlainOp.{PlainOp}
use Rattle.core_types.specs.declared.op.PlainOp.TheVariants.{BrTable, Control}
use Rattle.core_types.specs.declared.outcome.Val.{Val}
use Rattle.core_types.specs.declared.outcome.Val.TheVariants.{I32, FuncRef}
use Rattle.core_types.specs.declared.outcome.Trap.TheVariants.{IndirectType}
use Rattle.core_types.specs.declared.types.FuncType.{FuncType}
use Rattle.meaning.specs.structure.Bodies.{Kind, BlockKind, LoopKind, IfKind, Body, Empty, Then, Nested, IfElse}
use Rattle.meaning.specs.execution.Configurations.{Activation, Configuration, Frame, InFrame, InLabel, Invoking, Label, Running, continue_with}
use Rattle.meaning.specs.execution.Costs.{instruction_cost}
use Rattle.meaning.specs.execution.Effects.{Effect, Done, Grown, Fails, Lacks, effect, table_at}
use Rattle.meaning.specs.execution.Instructions.{Next, Goes, Grows, Opens, CallsHost, Traps, Branches, Returns, TailCalls, Over, NotReady, branch_by_table}
use Rattle.meaning.specs.execution.Instructions.{branch_if, branch_to_label, call_entry, call_function, call_host, call_implementation, call_in_place}
use Rattle.meaning.specs.execution.Instructions.{call_of_type, call_through, choose_body, continue_after, enter_label, function_at, in_place, label_of}
use Rattle.meaning.specs.execution.Instructions.{lent_memory, next, return_from_frame, step_in_frame, step_in_label, step_instruction, step_sequence, tail_call}
use Rattle.meaning.specs.execution.Instructions.{topmost, type_of_block}
use Rattle.meaning.specs.execution.Store.{FunctionInstance, Implementation, InCode, InHost, ModuleInstance, Store, instance_of, item_of}
use Rattle.meaning.specs.execution.Tables.{TableInstance}
use Rattle.meaning.specs.execution.Values.{default_of, type_of}
use Rattle.meaning.specs.validation.Types.{are_same_types, block_type, is_same_function_type}
use Rattle.soundness.proofs.Values.{All-at}
use Rattle.isolation.specs.Regions.{AgreeWithin, ConfigurationIsWithin, FrameIsWithin, FunctionIsWithin, Has, ImplementationIsWithin, InstanceIsWithin}
use Rattle.isolation.specs.Regions.{IsClosed, Region, ValueIsWithin, ValuesAreWithin}
use Rattle.isolation.proofs.Effects.{EffectsAgree, Found, effects, instance-same, instance-within, table-found}
use Rattle.isolation.proofs.Moves.{Moves, Moves-same}
use Rattle.isolation.proofs.Within.{append-within, at-within, defaults-within, drop-within, reverse-within, take-within}

-- The borrowed memory, if there is one, is in the region.
abbrev pub IsLentWithin : Region → Option ℕ → Type 0
IsLentWithin region None = Unit {0}
IsLentWithin region (Some address) = Has region.memories address

-- The next step is the same in each of two stores, within the region.
abbrev pub NextsAgree : Region → (a b : Store) → Next → Next → Type 0
NextsAgree region a b (Goes cost a' frame c) other =
    (b' : Store) × (other ≡ Goes cost b' frame c) × Moves region a b a' b' × FrameIsWithin region frame × ConfigurationIsWithin region c
NextsAgree region a b (Grows cost a' frame c) other =
    (b' : Store) × (other ≡ Grows cost b' frame c) × Moves region a b a' b' × FrameIsWithin region frame × ConfigurationIsWithin region c
NextsAgree region a b (Opens cost a' c) other = (b' : Store) × (other ≡ Opens cost b' c) × Moves region a b a' b' × ConfigurationIsWithin region c
NextsAgree region a b (CallsHost cost number lent arguments c) other = (other ≡ CallsHost cost number lent arguments c) × IsLentWithin region lent
    × Has region.hosts number × ConfigurationIsWithin region c
NextsAgree region a b (Traps cost trap) other = other ≡ Traps cost trap
NextsAgree region a b (Branches label values) other = (other ≡ Branches label values) × ValuesAreWithin region values
NextsAgree region a b (Returns values) other = (other ≡ Returns values) × ValuesAreWithin region values
NextsAgree region a b (TailCalls lent f values) other = (other ≡ TailCalls lent f values) × IsLentWithin region lent × FunctionIsWithin region f × ValuesAreWithin region values
NextsAgree region a b (Over values) other = (other ≡ Over values) × ValuesAreWithin region values
NextsAgree region a b NotReady other = other ≡ NotReady

module _ (region : Region) (a b : Store) (closed : IsClosed region a) (agree : AgreeWithin region a b) where
  abbrev Agree : Next → Next → Type 0
  Agree = NextsAgree region a b

  same : Moves region a b a b
  same = Moves-same region a b closed agree

  -- ---- calls

  abbrev FunctionFound : Option FunctionInstance → Type 0
  FunctionFound None = Unit {0}
  FunctionFound (Some f) = FunctionIsWithin region f

  function-there : (address : ℕ) → Has region.functions address → FunctionFound (slice_get a.functions address)
  function-there address has = go (slice_get a.functions address) refl
    where
      go : (o : Option FunctionInstance) → slice_get a.functions address ≡ o → FunctionFound o
      go None is = tt
      go (Some f) is = closed.functions address f has is

  host-called : (cost number : ℕ) → Has region.hosts number → (lent : Option ℕ) → IsLentWithin region lent → (t : FuncType) (values : List Val) → ValuesAreWithin region values → (rest : Body)
      → Agree (call_host cost number lent t values rest) (call_host cost number lent t values rest)
  host-called cost number of lent lends t values within rest = go (are_same_types (map type_of (topmost t.params values)) t.params)
    where
      go : (yes : Bool) → Agree (if yes then CallsHost cost number lent (topmost t.params values) (Running (drop (length t.params) values) rest) else NotReady)
          (if yes then CallsHost cost number lent (topmost t.params values) (Running (drop (length t.params) values) rest) else NotReady)
      go true = (refl, lends, of, drop-within region (length t.params) values within)
      go false = refl

  implementation-called : (cost : ℕ) (lent : Option ℕ) → IsLentWithin region lent → (t : FuncType) (i : Implementation)
      → ImplementationIsWithin region i → (values : List Val) → ValuesAreWithin region values → (rest : Body)
      → Agree (call_implementation cost a lent t i values rest) (call_implementation cost b lent t i values rest)
  implementation-called cost lent lends t (InCode instance code) fits values within rest = (
    b,
    refl,
    same,
    (
      drop-within region (length t.params) values within,
      record {
        instance = fits;
        locals = append-within region (topmost t.params values) (map default_of code.locals)
            (reverse-within region _ (take-within region (length t.params) values within)) (defaults-within region code.locals);
      },
      (tt, tt),
    ),
  )
  implementation-called cost lent lends t (InHost number) fits values within rest = host-called cost number fits lent lends t values within rest

  called : (cost : ℕ) (lent : Option ℕ) → IsLentWithin region lent → (o : Option FunctionInstance) → FunctionFound o → (values : List Val) → ValuesAreWithin region values → (rest : Body)
      → Agree (call_function cost a lent o values rest) (call_function cost b lent o values rest)
  called cost lent lends None found values within rest = refl
  called cost lent lends (Some f) found values within rest = go (nat_le (length f.ty.params) (length values))
    where
      go : (yes : Bool) → Agree (if yes then call_implementation cost a lent f.ty f.implementation values rest else NotReady)
          (if yes then call_implementation cost b lent f.ty f.implementation values rest else NotReady)
      go true = implementation-called cost lent lends f.ty f.implementation found values within rest
      go false = refl

  -- A call of the function at an address of the region.
  called-at : (cost : ℕ) (lent : Option ℕ) → IsLentWithin region lent → (address : ℕ) → Has region.functions address → (values : List Val) → ValuesAreWithin region values → (rest : Body)
      → Agree (call_function cost a lent (slice_get a.functions address) values rest) (call_function cost b lent (slice_get b.functions address) values rest)
  called-at cost lent lends address has values within rest =
      subst (λ (o : Option FunctionInstance).
      Agree (call_function cost a lent (slice_get a.functions address) values rest) (call_function cost b lent o values rest))
      (sym (agree.functions address has))
      (called cost lent lends (slice_get a.functions address) (function-there address has) values within rest)

  -- Two calls that agree, through an entry of a table.
  module _ (ca cb : List Val → FunctionInstance → Next)
      (each : (values : List Val) → ValuesAreWithin region values → (f : FunctionInstance) → FunctionIsWithin region f
      → Agree (ca values f) (cb values f)) where
    of-type : (t : FuncType) (values : List Val) → ValuesAreWithin region values → (o : Option FunctionInstance) → FunctionFound o → Agree (call_of_type (ca values) t o) (call_of_type (cb values) t o)
    of-type t values within None found = refl
    of-type t values within (Some f) found = go (is_same_function_type f.ty t)
      where
        go : (yes : Bool) → Agree (if yes then ca values f else Traps instruction_cost IndirectType) (if yes then cb values f else Traps instruction_cost IndirectType)
        go true = each values within f found
        go false = refl

    of-entry : (t : FuncType) (values : List Val) → ValuesAreWithin region values → (o : Option Val)
        → ((v : Val) → o ≡ Some v → ValueIsWithin region v) → Agree (call_entry a (ca values) t o) (call_entry b (cb values) t o)
    of-entry t values within None fits = refl
    of-entry t values within (Some (FuncRef None)) fits = refl
    of-entry t values within (Some (FuncRef (Some address))) fits =
        let has : Has region.functions address = fits (FuncRef (Some address)) refl in
        subst (λ (o : Option FunctionInstance). Agree (call_of_type (ca values) t (slice_get a.functions address)) (call_of_type (cb values) t o)) (sym (agree.functions address has))
        (of-type t values within (slice_get a.functions address) (function-there address has))
    of-entry t values within (Some v) fits = refl

    through : (o : Option FuncType) (found : Option (ℕ × TableInstance)) → Found region.tables a.tables found → (values : List Val)
        → ValuesAreWithin region values → Agree (call_through a ca o found values) (call_through b cb o found values)
    through (Some t) (Some (address, table)) found (I32 i ∷ values) within =
        of-entry t values within.1 (slice_get table.entries i) (λ v is. at-within region table.entries i v (closed.tables address table found.0 found.1) is)
    through o other found values within = refl

  module _ (frame : Frame) (own : FrameIsWithin region frame) where
    same-instance : instance_of b frame.instance ≡ instance_of a frame.instance
    same-instance = instance-same region a b closed agree frame.instance own.instance

    has : InstanceIsWithin region (instance_of a frame.instance)
    has = instance-within region a b closed agree frame.instance own.instance

    function-found : (x : ℕ) → (function_at b frame x ≡ function_at a frame x) × FunctionFound (function_at a frame x)
    function-found x =
        let (there, found) = go (slice_get (instance_of a frame.instance).functions x)
        (λ address is. All-at (Has region.functions) (instance_of a frame.instance).functions x address is has.functions) in
        (ap (λ (i : ModuleInstance). item_of b.functions (slice_get i.functions x)) same-instance ∙ there, found)
      where
        go : (o : Option ℕ) → ((address : ℕ) → o ≡ Some address → Has region.functions address) → (item_of b.functions o ≡ item_of a.functions o) × FunctionFound (item_of a.functions o)
        go None each = (refl, tt)
        go (Some address) each = (agree.functions address (each address refl), function-there address (each address refl))

    lent-same : lent_memory b frame ≡ lent_memory a frame
    lent-same = ap (λ (i : ModuleInstance). slice_get i.memories 0) same-instance

    lends : IsLentWithin region (lent_memory a frame)
    lends = go (slice_get (instance_of a frame.instance).memories 0) refl
      where
        go : (o : Option ℕ) → slice_get (instance_of a frame.instance).memories 0 ≡ o → IsLentWithin region o
        go None is = tt
        go (Some address) is = All-at (Has region.memories) (instance_of a frame.instance).memories 0 address is has.memories

    goes : (cost : ℕ) (c : Configuration) → ConfigurationIsWithin region c → Agree (Goes cost a frame c) (Goes cost b frame c)
    goes cost c within = (b, refl, same, own, within)

    -- ---- one instruction

    continues : (e e' : Effect) → EffectsAgree region a b e e' → (rest : Body) → Agree (continue_after frame e rest) (continue_after frame e' rest)
    continues (Done cost a' locals values) e' (b', is, moves, locals_within, within) rest =
        (b', ap (λ (z : Effect). continue_after frame z rest) is, moves, record { instance = own.instance; locals = locals_within }, within)
    continues (Grown cost a' locals values) e' (b', is, moves, locals_within, within) rest =
        (b', ap (λ (z : Effect). continue_after frame z rest) is, moves, record { instance = own.instance; locals = locals_within }, within)
    continues (Fails trap) e' is rest = ap (λ (z : Effect). continue_after frame z rest) is
    continues Lacks e' is rest = ap (λ (z : Effect). continue_after frame z rest) is

    branches-if : (label : ℕ) (values : List Val) → ValuesAreWithin region values → (rest : Body) → Agree (branch_if a frame label values rest) (branch_if b frame label values rest)
    branches-if label (I32 zero ∷ values) within rest = goes instruction_cost (Running values rest) within.1
    branches-if label (I32 (suc n) ∷ values) within rest = (refl, within.1)
    branches-if label values within rest = refl

    branches-by : (table : BranchTable) (values : List Val) → ValuesAreWithin region values → Agree (branch_by_table table values) (branch_by_table table values)
    branches-by table (I32 n ∷ values) within = (refl, within.1)
    branches-by table values within = refl

    tail-called : (o : Option FunctionInstance) → FunctionFound o → (values : List Val) → ValuesAreWithin region values
        → Agree (tail_call (lent_memory a frame) o values) (tail_call (lent_memory a frame) o values)
    tail-called None found values within = refl
    tail-called (Some f) found values within = (refl, lends, found, within)

    abbrev type_in : Store → ℕ → Option FuncType
    type_in store type = slice_get (instance_of store frame.instance).types type

    type-same : (type : ℕ) → type_in b type ≡ type_in a type
    type-same type = ap (λ (i : ModuleInstance). slice_get i.types type) same-instance

    instructions : (op : PlainOp) (values : List Val) → ValuesAreWithin region values → (rest : Body) → Agree (step_instruction a frame op values rest) (step_instruction b frame op values rest)
    instructions (Control (Br label)) values within rest = (refl, within)
    instructions (Control (BrIf label)) values within rest = branches-if label values within rest
    instructions (BrTable table) values within rest = branches-by table values within
    instructions (Control Return) values within rest = (refl, within)
    instructions (Control (Call x)) values within rest =
        let (there, found) = function-found x in
        subst (λ (o : Option FunctionInstance).
        Agree (call_function instruction_cost a (lent_memory a frame) (function_at a frame x) values rest)
        (call_function instruction_cost b (lent_memory b frame) o values rest)) (sym there)
        (subst (λ (l : Option ℕ). Agree (call_function instruction_cost a (lent_memory a frame) (function_at a frame x) values rest)
        (call_function instruction_cost b l (function_at a frame x) values rest)) (sym lent-same)
        (called instruction_cost (lent_memory a frame) lends (function_at a frame x) found values within rest))
    instructions (Control (CallIndirect type x)) values within rest =
        let (there, found) = table-found region a b closed agree frame own x in
        subst (λ (o : Option (ℕ × TableInstance)).
        Agree (step_instruction a frame (Control (CallIndirect type x)) values rest)
        (call_through b (λ under f. call_function instruction_cost b (lent_memory b frame) (Some f) under rest) (type_in b type) o values)) (sym there)
        (subst (λ (o : Option FuncType).
        Agree (step_instruction a frame (Control (CallIndirect type x)) values rest)
        (call_through b (λ under f. call_function instruction_cost b (lent_memory b frame) (Some f) under rest) o (table_at a frame x) values))
        (sym (type-same type))
        (subst (λ (l : Option ℕ). Agree (step_instruction a frame (Control (CallIndirect type x)) values rest)
        (call_through b (λ under f. call_function instruction_cost b l (Some f) under rest) (type_in a type) (table_at a frame x) values)) (sym lent-same)
        (through (λ under f. call_function instruction_cost a (lent_memory a frame) (Some f) under rest) (λ under f. call_function instruction_cost b (lent_memory a frame) (Some f) under rest)
        (λ under under_within f fits. called instruction_cost (lent_memory a frame) lends (Some f) fits under under_within rest) (type_in a type) (table_at a frame x) found values within)))
    instructions (Control (ReturnCall x)) values within rest =
        let (there, found) = function-found x in
        subst (λ (o : Option FunctionInstance). Agree (tail_call (lent_memory a frame) (function_at a frame x) values) (tail_call (lent_memory b frame) o values)) (sym there)
        (subst (λ (l : Option ℕ). Agree (tail_call (lent_memory a frame) (function_at a frame x) values) (tail_call l (function_at a frame x) values)) (sym lent-same)
        (tail-called (function_at a frame x) found values within))
    instructions (Control (ReturnCallIndirect type x)) values within rest =
        let (there, found) = table-found region a b closed agree frame own x in
        subst (λ (o : Option (ℕ × TableInstance)).
        Agree (step_instruction a frame (Control (ReturnCallIndirect type x)) values rest)
        (call_through b (λ under f. TailCalls (lent_memory b frame) f under) (type_in b type) o values)) (sym there)
        (subst (λ (o : Option FuncType).
        Agree (step_instruction a frame (Control (ReturnCallIndirect type x)) values rest)
        (call_through b (λ under f. TailCalls (lent_memory b frame) f under) o (table_at a frame x) values)) (sym (type-same type))
        (subst (λ (l : Option ℕ). Agree (step_instruction a frame (Control (ReturnCallIndirect type x)) values rest)
        (call_through b (λ under f. TailCalls l f under) (type_in a type) (table_at a frame x) values)) (sym lent-same)
        (through (λ under f. TailCalls (lent_memory a frame) f under) (λ under f. TailCalls (lent_memory a frame) f under)
        (λ under under_within f fits. (refl, lends, fits, under_within)) (type_in a type) (table_at a frame x) found values within)))
    instructions op values within rest = continues (effect a frame op values) (effect b frame op values) (effects region a b closed agree frame own op values within) rest

    -- ---- sequences

    enters : (kind : Kind) (type : BlockType) (o : Option FuncType) (inside : Body) (values : List Val) → ValuesAreWithin region values → (rest : Body)
        → Agree (enter_label a frame kind type o inside values rest) (enter_label b frame kind type o inside values rest)
    enters kind type None inside values within rest = refl
    enters kind type (Some t) inside values within rest = go (nat_le (length t.params) (length values))
      where
        entered : Configuration
        entered = InLabel (label_of kind type t inside values rest) (Running (take (length t.params) values) inside)

        go : (yes : Bool)
            → Agree (if yes then Goes instruction_cost a frame (InLabel (label_of kind type t inside values rest) (Running (take (length t.params) values) inside)) else NotReady)
            (if yes then Goes instruction_cost b frame (InLabel (label_of kind type t inside values rest) (Running (take (length t.params) values) inside)) else NotReady)
        go true = goes instruction_cost _ (drop-within region (length t.params) values within, take-within region (length t.params) values within)
        go false = refl

    block-same : (type : BlockType) → type_of_block b frame type ≡ type_of_block a frame type
    block-same type = ap (λ (i : ModuleInstance). block_type i.types type) same-instance

    enters-block : (kind : Kind) (type : BlockType) (inside : Body) (values : List Val) → ValuesAreWithin region values → (rest : Body)
        → Agree (enter_label a frame kind type (type_of_block a frame type) inside values rest) (enter_label b frame kind type (type_of_block b frame type) inside values rest)
    enters-block kind type inside values within rest =
        subst (λ (o : Option FuncType).
        Agree (enter_label a frame kind type (type_of_block a frame type) inside values rest)
        (enter_label b frame kind type o inside values rest)) (sym (block-same type))
        (enters kind type (type_of_block a frame type) inside values within rest)

    chooses : (type : BlockType) (inside other : Body) (values : List Val) → ValuesAreWithin region values → (rest : Body)
        → Agree (choose_body a frame type inside other values rest) (choose_body b frame type inside other values rest)
    chooses type inside other (I32 zero ∷ values) within rest = enters-block IfKind type other values within.1 rest
    chooses type inside other (I32 (suc n) ∷ values) within rest = enters-block IfKind type inside values within.1 rest
    chooses type inside other values within rest = refl

    sequences : (values : List Val) → ValuesAreWithin region values → (body : Body) → Agree (step_sequence a frame values body) (step_sequence b frame values body)
    sequences values within Empty = (refl, within)
    sequences values within (Then op rest) = instructions op values within rest
    sequences values within (Nested BlockKind type inside rest) = enters-block BlockKind type inside values within rest
    sequences values within (Nested LoopKind type inside rest) = enters-block LoopKind type inside values within rest
    sequences values within (Nested IfKind type inside rest) = chooses type inside Empty values within rest
    sequences values within (IfElse type inside other rest) = chooses type inside other values within rest

    -- ---- labels

    module _ (label : Label) (under : ValuesAreWithin region label.values) where
      branched : (kept : List Val) → ValuesAreWithin region kept → Agree (branch_to_label a frame label kept) (branch_to_label b frame label kept)
      branched kept within = go (nat_le label.arity (length kept))
        where
          go : (yes : Bool)
              → Agree (if yes then Goes instruction_cost a frame (Running (take label.arity kept ++ label.values) (continue_with label.continuation label.rest)) else NotReady)
              (if yes then Goes instruction_cost b frame (Running (take label.arity kept ++ label.values) (continue_with label.continuation label.rest)) else NotReady)
          go true = goes instruction_cost _ (append-within region (take label.arity kept) label.values (take-within region label.arity kept within) under)
          go false = refl

      labelled : (n n' : Next) → Agree n n' → Agree (step_in_label a frame label n) (step_in_label b frame label n')
      labelled (Goes cost a' frame' inside) n' (b', is, moves, fits, within) = (b', ap (step_in_label b frame label) is, moves, fits, (under, within))
      labelled (Grows cost a' frame' inside) n' (b', is, moves, fits, within) = (b', ap (step_in_label b frame label) is, moves, fits, (under, within))
      labelled (Opens cost a' inside) n' (b', is, moves, within) = (b', ap (step_in_label b frame label) is, moves, (under, within))
      labelled (CallsHost cost number lent arguments inside) n' (is, lends', of, within) = (ap (step_in_label b frame label) is, lends', of, (under, within))
      labelled (Traps cost trap) n' is = ap (step_in_label b frame label) is
      labelled (Branches zero kept) n' (is, within) = subst (λ (z : Next). Agree (branch_to_label a frame label kept) (step_in_label b frame label z)) (sym is) (branched kept within)
      labelled (Branches (suc further) kept) n' (is, within) = (ap (step_in_label b frame label) is, within)
      labelled (Returns kept) n' (is, within) = (ap (step_in_label b frame label) is, within)
      labelled (TailCalls lent f kept) n' (is, lends', fits, within) = (ap (step_in_label b frame label) is, lends', fits, within)
      labelled (Over values) n' (is, within) = (b, ap (step_in_label b frame label) is, same, own, append-within region values label.values within under)
      labelled NotReady n' is = ap (step_in_label b frame label) is

    -- ---- frames

    placed : (n n' : Next) → Agree n n' → Agree (in_place frame n) (in_place frame n')
    placed (Opens cost a' c) n' (b', is, moves, within) = (b', ap (in_place frame) is, moves, own, within)
    placed (Goes cost a' frame' c) n' (b', is, moves, fits, within) = (b', ap (in_place frame) is, moves, fits, within)
    placed (Grows cost a' frame' c) n' (b', is, moves, fits, within) = (b', ap (in_place frame) is, moves, fits, within)
    placed (CallsHost cost number lent arguments c) n' (is, lends', of, within) = (ap (in_place frame) is, lends', of, within)
    placed (Traps cost trap) n' is = ap (in_place frame) is
    placed (Branches label kept) n' (is, within) = (ap (in_place frame) is, within)
    placed (Returns kept) n' (is, within) = (ap (in_place frame) is, within)
    placed (TailCalls lent f kept) n' (is, lends', fits, within) = (ap (in_place frame) is, lends', fits, within)
    placed (Over values) n' (is, within) = (ap (in_place frame) is, within)
    placed NotReady n' is = ap (in_place frame) is

    module _ (activation : Activation) (under : ValuesAreWithin region activation.values) (inner : Frame) (inner_within : FrameIsWithin region inner) where
      returned : (kept : List Val) → ValuesAreWithin region kept → Agree (return_from_frame a frame activation kept) (return_from_frame b frame activation kept)
      returned kept within = go (nat_le activation.arity (length kept))
        where
          go : (yes : Bool)
              → Agree (if yes then Goes instruction_cost a frame (Running (take activation.arity kept ++ activation.values) activation.rest) else NotReady)
              (if yes then Goes instruction_cost b frame (Running (take activation.arity kept ++ activation.values) activation.rest) else NotReady)
          go true = goes instruction_cost _ (append-within region (take activation.arity kept) activation.values (take-within region activation.arity kept within) under)
          go false = refl

      called-in-place : (lent : Option ℕ) → IsLentWithin region lent → (f : FunctionInstance) → FunctionIsWithin region f → (kept : List Val) → ValuesAreWithin region kept
          → Agree (call_in_place a frame activation lent f kept) (call_in_place b frame activation lent f kept)
      called-in-place lent lends' f fits kept within = go (nat_le (length f.ty.params) (length kept))
        where
          go : (yes : Bool)
              → Agree (if yes then in_place frame (call_function instruction_cost a lent (Some f) (take (length f.ty.params) kept ++ activation.values) activation.rest) else NotReady)
              (if yes then in_place frame (call_function instruction_cost b lent (Some f) (take (length f.ty.params) kept ++ activation.values) activation.rest) else NotReady)
          go true =
              placed (call_function instruction_cost a lent (Some f) (take (length f.ty.params) kept ++ activation.values) activation.rest)
              (call_function instruction_cost b lent (Some f) (take (length f.ty.params) kept ++ activation.values) activation.rest)
              (called instruction_cost lent lends' (Some f) fits (take (length f.ty.params) kept ++ activation.values)
              (append-within region (take (length f.ty.params) kept) activation.values (take-within region (length f.ty.params) kept within)
              under) activation.rest)
          go false = refl

      framed : (n n' : Next) → Agree n n' → Agree (step_in_frame a frame activation inner n) (step_in_frame b frame activation inner n')
      framed (Goes cost a' frame' inside) n' (b', is, moves, fits, within) = (b', ap (step_in_frame b frame activation inner) is, moves, own, (under, fits, within))
      framed (Grows cost a' frame' inside) n' (b', is, moves, fits, within) = (b', ap (step_in_frame b frame activation inner) is, moves, own, (under, fits, within))
      framed (Opens cost a' inside) n' (b', is, moves, within) = (b', ap (step_in_frame b frame activation inner) is, moves, (under, inner_within, within))
      framed (CallsHost cost number lent arguments inside) n' (is, lends', of, within) = (ap (step_in_frame b frame activation inner) is, lends', of, (under, inner_within, within))
      framed (Traps cost trap) n' is = ap (step_in_frame b frame activation inner) is
      framed (Branches label kept) n' (is, within) = ap (step_in_frame b frame activation inner) is
      framed (Returns kept) n' (is, within) = subst (λ (z : Next). Agree (return_from_frame a frame activation kept) (step_in_frame b frame activation inner z)) (sym is) (returned kept within)
      framed (TailCalls lent f kept) n' (is, lends', fits, within) =
          subst (λ (z : Next). Agree (call_in_place a frame activation lent f kept) (step_in_frame b frame activation inner z)) (sym is) (called-in-place lent lends' f fits kept within)
      framed (Over values) n' (is, within) = (b, ap (step_in_frame b frame activation inner) is, same, own, append-within region values activation.values within under)
      framed NotReady n' is = ap (step_in_frame b frame activation inner) is

  -- ---- all of them

  pub nexts-agree : (frame : Frame) → FrameIsWithin region frame → (c : Configuration) → ConfigurationIsWithin region c → Agree (next a frame c) (next b frame c)
  nexts-agree frame own (Running values rest) within = sequences frame own values within rest
  nexts-agree frame own (InLabel label inside) within = labelled frame own label within.0 (next a frame inside) (next b frame inside) (nexts-agree frame own inside within.1)
  nexts-agree frame own (InFrame activation inner inside) within =
      framed frame own activation within.0 inner within.1 (next a inner inside) (next b inner inside) (nexts-agree inner within.1 inside within.2)
  nexts-agree frame own (Invoking arguments address) within = called-at 0 None tt address within.1 arguments within.0 Empty
