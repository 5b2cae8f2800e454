-- Instructions without control, in two stores that agree within a region: they do the same, within it.
use Rattle.std.proofs.Common.{◌≡◌, ℕ, zero, suc, ◌+◌, List, [], ◌∷◌, length, replicate, Option, Some, None, Bool, true, false, refl, ap, sym, subst, ◌∙◌, slice_get, slice_set, unwrap_or}
use Rattle.std.specs.Prelude.{Result, Ok, Err, IfOk, nat_le, nat_lt, ◌&&◌, if◌then◌else◌}
use Rattle.core_types.specs.declared.op.ControlOp.TheVariants.{Unreachable, Nop}
use Rattle.core_types.specs.declared.op.Conversion.TheVariants.{I32WrapI64, I64ExtendI32S, I64ExtendI32U, I64Extend32S}
use Rattle.core_types.specs.declared.op.LoadOp.{LoadOp}
use Rattle.core_types.specs.declared.op.LoadOp.TheVariants as load
use Rattle.core_types.specs.declared.op.MemoryOp.{MemoryOp}
use Rattle.core_types.specs.declared.op.MemoryOp.TheVariants.{Load, Store as StoreNumber, Size, Grow, Fill, Copy, Init, DataDrop}
use Rattle.core_types.specs.declared.op.NumericOp.{NumericOp}
use Rattle.core_types.specs.declared.op.NumericOp.TheVariants.{Eqz, Compare, Unary, Binary, Convert}
use Rattle.core_types.specs.declared.op.ParametricOp.{ParametricOp}
use Rattle.core_types.specs.declared.op.ParametricOp.TheVariants.{DropOperand, Select}
use Rattle.core_types.specs.declared.op.PlainOp.{PlainOp}
use Rattle.core_types.specs.declared.op.PlainOp.TheVariants.{Control, I32Const, I64Const, Memory, Numeric, Parametric, Reference, SelectTyped, Table, Variable}
use Rattle.core_types.specs.declared.op.ReferenceOp.{ReferenceOp}
use Rattle.core_types.specs.declared.op.ReferenceOp.TheVariants.{Null, IsNull, Func}
use Rattle.core_types.specs.declared.op.Sign.TheVariants.{Signed, Unsigned}
use Rattle.core_types.specs.declared.op.StoreOp.{StoreOp}
use Rattle.core_types.specs.declared.op.TableOp.{TableOp}
use Rattle.core_types.specs.declared.op.TableOp.TheVariants as table_op
use Rattle.core_types.specs.declared.op.VariableOp.{VariableOp}
use Rattle.core_types.specs.declared.op.VariableOp.TheVariants.{LocalGet, LocalSet, LocalTee, GlobalGet, GlobalSet}
use Rattle.core_types.specs.declared.op.Width.TheVariants.{W32, W64}
use Rattle.core_types.specs.declared.outcome.Trap.{Trap}
use Rattle.core_types.specs.declared.outcome.Trap.TheVariants.{MemoryBounds, TableBounds}
use Rattle.core_types.specs.declared.outcome.Val.{Val}
use Rattle.core_types.specs.declared.outcome.Val.TheVariants.{I32, I64, FuncRef, ExternRef}
use Rattle.meaning.specs.execution.Configurations.{Frame}
use Rattle.meaning.specs.execution.Costs.{bulk_cost, entries_cost, growth_cost, instruction_cost}
use Rattle.meaning.specs.execution.Effects.{Effect, Done, Grown, Fails, Lacks, copy_table, data_at, drop_data, drop_elements, effect, elements_at, get_global}
use Rattle.meaning.specs.execution.Effects.{get_local, global_at, grow_memory, grow_table, in_memory, init_memory, init_table, memory_effect}
use Rattle.meaning.specs.execution.Effects.{memory_or_data_effect, numeric_effect, on_table, parametric_effect, push_read, push_result, refer_to_function}
use Rattle.meaning.specs.execution.Effects.{reference_effect, select_operand, set_global, set_local, store_number, table_at, table_effect}
use Rattle.meaning.specs.execution.Effects.{table_or_elements_effect, variable_effect, write_memory, write_table}
use Rattle.meaning.specs.execution.Memories.{MemoryInstance, can_grow, copy_bytes, fill_bytes, grow_by, load_from, loaded_value, store_into, stored_number}
use Rattle.meaning.specs.execution.Numerics.{binary_operator}
use Rattle.meaning.specs.execution.Storage.{items_at, number_of_bytes, overwrite}
use Rattle.meaning.specs.execution.Store.{DataInstance, GlobalInstance, ModuleInstance, Store, instance_of, locate, locate_at, no_instance, with_data}
use Rattle.meaning.specs.execution.Store.{with_elements, with_global, with_memory, with_table}
use Rattle.meaning.specs.execution.Tables.{ElementInstance, TableInstance, copy_entries, entry_or_trap, fill_entries, grow_entries, most_entries, read_entry, write_entry}
use Rattle.meaning.specs.validation.Instructions.{load_width, store_width}
use Rattle.meaning.specs.validation.Types.{most_pages}
use Rattle.soundness.proofs.Objects.{All-none}
use Rattle.soundness.proofs.Values.{All-at}
use Rattle.isolation.specs.Regions.{AgreeWithin, FrameIsWithin, Has, HasAll, InstanceIsWithin, IsClosed, IsInstanceWithin, IsSameWithin, Region, ValueIsWithin, ValuesAreWithin}
use Rattle.isolation.proofs.Moves.{Moves, Moves-same, data-moves, elements-moves, global-moves, memory-moves, table-moves}
use Rattle.isolation.proofs.Within.{append-within, at-within, items-within, null-within, overwrite-within, replicate-within, set-within}

-- The same effect on each of two stores, within the region.
abbrev pub EffectsAgree : Region → (a b : Store) → Effect → Effect → Type 0
EffectsAgree region a b (Done cost a' locals values) other =
    (b' : Store) × (other ≡ Done cost b' locals values) × Moves region a b a' b' × ValuesAreWithin region locals × ValuesAreWithin region values
EffectsAgree region a b (Grown cost a' locals values) other =
    (b' : Store) × (other ≡ Grown cost b' locals values) × Moves region a b a' b' × ValuesAreWithin region locals × ValuesAreWithin region values
EffectsAgree region a b (Fails trap) other = other ≡ Fails trap
EffectsAgree region a b Lacks other = other ≡ Lacks

-- The item that was looked for is at one of these addresses, if it was found.
abbrev pub Found : {X : Type 0} → (ℕ → Type 0) → List X → Option (ℕ × X) → Type 0
Found addresses items None = Unit {0}
Found addresses items (Some (address, x)) = Has addresses address × (slice_get items address ≡ Some x)

located : {X : Type 0} (region : Region) (addresses : ℕ → Type 0) (xs ys : List X) → IsSameWithin region addresses xs ys → (list : List ℕ) → HasAll addresses list → (x : ℕ)
    → (locate ys (slice_get list x) ≡ locate xs (slice_get list x)) × Found addresses xs (locate xs (slice_get list x))
located {X} region addresses xs ys same list all x = go (slice_get list x) (λ address is. All-at (Has addresses) list x address is all)
  where
    found : (address : ℕ) → Has addresses address → (o : Option X) → slice_get xs address ≡ o → Found addresses xs (locate_at address o)
    found address has None is = tt
    found address has (Some x) is = (has, is)

    go : (o : Option ℕ) → ((address : ℕ) → o ≡ Some address → Has addresses address) → (locate ys o ≡ locate xs o) × Found addresses xs (locate xs o)
    go None has = (refl, tt)
    go (Some address) has = (ap (locate_at address) (same address (has address refl)), found address (has address refl) (slice_get xs address) refl)

module _ (region : Region) (a b : Store) (closed : IsClosed region a) (agree : AgreeWithin region a b) where
  -- ---- instances

  pub instance-same : (i : Option ℕ) → IsInstanceWithin region i → instance_of b i ≡ instance_of a i
  instance-same None within = refl
  instance-same (Some n) within = ap (λ (o : Option ModuleInstance). unwrap_or o no_instance) (agree.instances n within)

  none-within : InstanceIsWithin region no_instance
  none-within = record {
    functions = All-none (Has region.functions);
    tables = All-none (Has region.tables);
    memories = All-none (Has region.memories);
    globals = All-none (Has region.globals);
    elements = All-none (Has region.elements);
    datas = All-none (Has region.datas);
  }

  pub instance-within : (i : Option ℕ) → IsInstanceWithin region i → InstanceIsWithin region (instance_of a i)
  instance-within None within = none-within
  instance-within (Some n) within = go (slice_get a.instances n) refl
    where
      go : (o : Option ModuleInstance) → slice_get a.instances n ≡ o → InstanceIsWithin region (unwrap_or o no_instance)
      go None is = none-within
      go (Some i) is = closed.instances n i within is

  module _ (frame : Frame) (own : FrameIsWithin region frame) where
    abbrev Agree : Effect → Effect → Type 0
    Agree = EffectsAgree region a b

    same-instance : instance_of b frame.instance ≡ instance_of a frame.instance
    same-instance = instance-same frame.instance own.instance

    has : InstanceIsWithin region (instance_of a frame.instance)
    has = instance-within frame.instance own.instance

    stays : (cost : ℕ) (values : List Val) → ValuesAreWithin region values → Agree (Done cost a frame.locals values) (Done cost b frame.locals values)
    stays cost values within = (b, refl, Moves-same region a b closed agree, own.locals, within)

    -- ---- variables

    global-found : (x : ℕ) → (global_at b frame x ≡ global_at a frame x) × Found region.globals a.globals (global_at a frame x)
    global-found x =
        let (same, found) = located region region.globals a.globals b.globals agree.globals (instance_of a frame.instance).globals has.globals x in
        (ap (λ (i : ModuleInstance). locate b.globals (slice_get i.globals x)) same-instance ∙ same, found)

    gets-local : (x : ℕ) (o : Option Val) → slice_get frame.locals x ≡ o → (values : List Val) → ValuesAreWithin region values → Agree (get_local a frame o values) (get_local b frame o values)
    gets-local x None is values within = refl
    gets-local x (Some v) is values within = stays instruction_cost (v ∷ values) (at-within region frame.locals x v own.locals is, within)

    sets-local : (x : ℕ) (v : Val) → ValueIsWithin region v → (values : List Val) → ValuesAreWithin region values → Agree (set_local a frame x v values) (set_local b frame x v values)
    sets-local x v fits values within = go (nat_lt x (length frame.locals))
      where
        go : (yes : Bool) → Agree (if yes then Done instruction_cost a (slice_set frame.locals x v) values else Lacks)
            (if yes then Done instruction_cost b (slice_set frame.locals x v) values else Lacks)
        go true = (b, refl, Moves-same region a b closed agree, set-within region frame.locals x v own.locals fits, within)
        go false = refl

    gets-global : (o : Option (ℕ × GlobalInstance)) → Found region.globals a.globals o → (values : List Val) → ValuesAreWithin region values
        → Agree (get_global a frame o values) (get_global b frame o values)
    gets-global None found values within = refl
    gets-global (Some (address, g)) found values within = stays instruction_cost (g.value ∷ values) (closed.globals address g found.0 found.1, within)

    sets-global : (o : Option (ℕ × GlobalInstance)) → Found region.globals a.globals o → (v : Val) → ValueIsWithin region v → (values : List Val) → ValuesAreWithin region values
        → Agree (set_global a frame o v values) (set_global b frame o v values)
    sets-global None found v fits values within = refl
    sets-global (Some (address, g)) found v fits values within =
        let new : GlobalInstance = record { ty = g.ty; value = v } in
        (with_global b address (record { ty = g.ty; value = v }), refl, global-moves region a b closed agree address found.0 (record { ty = g.ty; value = v }) fits, own.locals, within)

    variables : (op : VariableOp) (values : List Val) → ValuesAreWithin region values → Agree (variable_effect a frame op values) (variable_effect b frame op values)
    variables (LocalGet x) values within = gets-local x (slice_get frame.locals x) refl values within
    variables (LocalSet x) (v ∷ values) within = sets-local x v within.0 values within.1
    variables (LocalTee x) (v ∷ values) within = sets-local x v within.0 (v ∷ values) within
    variables (GlobalGet x) values within =
        let (same, found) = global-found x in
        subst (λ (o : Option (ℕ × GlobalInstance)). Agree (get_global a frame (global_at a frame x) values) (get_global b frame o values)) (sym same)
        (gets-global (global_at a frame x) found values within)
    variables (GlobalSet x) (v ∷ values) within =
        let (same, found) = global-found x in
        subst (λ (o : Option (ℕ × GlobalInstance)). Agree (set_global a frame (global_at a frame x) v values) (set_global b frame o v values))
        (sym same) (sets-global (global_at a frame x) found v within.0 values within.1)
    variables op values within = refl

    -- ---- numbers

    push-result : (integer : ℕ → Val) → ((n : ℕ) → ValueIsWithin region (integer n)) → (r : Result ℕ Trap) (values : List Val)
        → ValuesAreWithin region values → Agree (push_result a frame integer r values) (push_result b frame integer r values)
    push-result integer fits (Ok n) values within = stays instruction_cost (integer n ∷ values) (fits n, within)
    push-result integer fits (Err trap) values within = refl

    numerics : (op : NumericOp) (values : List Val) → ValuesAreWithin region values → Agree (numeric_effect a frame op values) (numeric_effect b frame op values)
    numerics (Eqz W32) (I32 n ∷ values) within = stays instruction_cost _ (tt, within.1)
    numerics (Eqz W64) (I64 n ∷ values) within = stays instruction_cost _ (tt, within.1)
    numerics (Compare W32 op) (I32 m ∷ (I32 n ∷ values)) within = stays instruction_cost _ (tt, within.1.1)
    numerics (Compare W64 op) (I64 m ∷ (I64 n ∷ values)) within = stays instruction_cost _ (tt, within.1.1)
    numerics (Unary W32 op) (I32 n ∷ values) within = stays instruction_cost _ (tt, within.1)
    numerics (Unary W64 op) (I64 n ∷ values) within = stays instruction_cost _ (tt, within.1)
    numerics (Binary W32 op) (I32 m ∷ (I32 n ∷ values)) within = push-result I32 (λ k. tt) (binary_operator 32 op n m) values within.1.1
    numerics (Binary W64 op) (I64 m ∷ (I64 n ∷ values)) within = push-result I64 (λ k. tt) (binary_operator 64 op n m) values within.1.1
    numerics (Convert I32WrapI64) (I64 n ∷ values) within = stays instruction_cost _ (tt, within.1)
    numerics (Convert I64ExtendI32S) (I32 n ∷ values) within = stays instruction_cost _ (tt, within.1)
    numerics (Convert I64ExtendI32U) (I32 n ∷ values) within = stays instruction_cost _ (tt, within.1)
    numerics (Convert I64Extend32S) (I64 n ∷ values) within = stays instruction_cost _ (tt, within.1)
    numerics op values within = refl

    selects : (values : List Val) → ValuesAreWithin region values → Agree (select_operand a frame values) (select_operand b frame values)
    selects (I32 zero ∷ (v ∷ (w ∷ values))) within = stays instruction_cost (v ∷ values) (within.1.0, within.1.1.1)
    selects (I32 (suc n) ∷ (v ∷ (w ∷ values))) within = stays instruction_cost (w ∷ values) within.1.1
    selects values within = refl

    parametrics : (op : ParametricOp) (values : List Val) → ValuesAreWithin region values → Agree (parametric_effect a frame op values) (parametric_effect b frame op values)
    parametrics DropOperand (v ∷ values) within = stays instruction_cost values within.1
    parametrics Select values within = selects values within
    parametrics op values within = refl

    -- ---- references

    refers : (o : Option ℕ) → ((address : ℕ) → o ≡ Some address → Has region.functions address) → (values : List Val) → ValuesAreWithin region values
        → Agree (refer_to_function a frame o values) (refer_to_function b frame o values)
    refers None there values within = refl
    refers (Some address) there values within = stays instruction_cost (FuncRef (Some address) ∷ values) (there address refl, within)

    references : (op : ReferenceOp) (values : List Val) → ValuesAreWithin region values → Agree (reference_effect a frame op values) (reference_effect b frame op values)
    references (Null t) values within = stays instruction_cost _ (null-within region t, within)
    references IsNull (FuncRef r ∷ values) within = stays instruction_cost _ (tt, within.1)
    references IsNull (ExternRef r ∷ values) within = stays instruction_cost _ (tt, within.1)
    references (Func x) values within =
        subst (λ (i : ModuleInstance). Agree (refer_to_function a frame (slice_get (instance_of a frame.instance).functions x) values)
        (refer_to_function b frame (slice_get i.functions x) values)) (sym same-instance)
        (refers (slice_get (instance_of a frame.instance).functions x) (λ address is. All-at (Has region.functions) (instance_of a frame.instance).functions x address is has.functions) values within)
    references op values within = refl

    -- ---- tables

    pub table-found : (x : ℕ) → (table_at b frame x ≡ table_at a frame x) × Found region.tables a.tables (table_at a frame x)
    table-found x =
        let (same, found) = located region region.tables a.tables b.tables agree.tables (instance_of a frame.instance).tables has.tables x in
        (ap (λ (i : ModuleInstance). locate b.tables (slice_get i.tables x)) same-instance ∙ same, found)

    elements-found : (x : ℕ) → (elements_at b frame x ≡ elements_at a frame x) × Found region.elements a.elements (elements_at a frame x)
    elements-found x =
        let (same, found) = located region region.elements a.elements b.elements agree.elements (instance_of a frame.instance).elements has.elements x in
        (ap (λ (i : ModuleInstance). locate b.elements (slice_get i.elements x)) same-instance ∙ same, found)

    reads : (r : Result Val Trap) → IfOk r (ValueIsWithin region) → (values : List Val) → ValuesAreWithin region values → Agree (push_read a frame r values) (push_read b frame r values)
    reads (Ok v) fits values within = stays instruction_cost (v ∷ values) (fits, within)
    reads (Err trap) fits values within = refl

    writes-table : (cost address : ℕ) → Has region.tables address → (table : TableInstance) (r : Result (List Val) Trap)
        → IfOk r (ValuesAreWithin region) → (values : List Val) → ValuesAreWithin region values
        → Agree (write_table a frame cost address table r values) (write_table b frame cost address table r values)
    writes-table cost address there table (Ok entries) fits values within = (
      with_table b address (record { ty = table.ty; entries = entries }),
      refl,
      table-moves region a b closed agree address there (record { ty = table.ty; entries = entries }) fits,
      own.locals,
      within,
    )
    writes-table cost address there table (Err trap) fits values within = refl

    entry-read : (entries : List Val) → ValuesAreWithin region entries → (i : ℕ) → IfOk (read_entry entries i) (ValueIsWithin region)
    entry-read entries within i = go (slice_get entries i) refl
      where
        go : (o : Option Val) → slice_get entries i ≡ o → IfOk (entry_or_trap o) (ValueIsWithin region)
        go None is = tt
        go (Some v) is = at-within region entries i v within is

    entry-written : (entries : List Val) → ValuesAreWithin region entries → (i : ℕ) (v : Val) → ValueIsWithin region v → IfOk (write_entry entries i v) (ValuesAreWithin region)
    entry-written entries within i v fits = go (nat_lt i (length entries))
      where
        go : (yes : Bool) → IfOk (if yes then Ok (slice_set entries i v) else Err TableBounds) (ValuesAreWithin region)
        go true = set-within region entries i v within fits
        go false = tt

    entries-filled : (entries : List Val) → ValuesAreWithin region entries → (offset : ℕ) (v : Val) (count : ℕ) → ValueIsWithin region v
        → IfOk (fill_entries entries offset v count) (ValuesAreWithin region)
    entries-filled entries within offset v count fits = go (nat_le (offset + count) (length entries))
      where
        go : (yes : Bool) → IfOk (if yes then Ok (overwrite entries offset (replicate count v)) else Err TableBounds) (ValuesAreWithin region)
        go true = overwrite-within region entries offset (replicate count v) within (replicate-within region count v fits)
        go false = tt

    entries-copied : (entries source : List Val) → ValuesAreWithin region entries → ValuesAreWithin region source → (target from count : ℕ)
        → IfOk (copy_entries entries source target from count) (ValuesAreWithin region)
    entries-copied entries source within fits target from count = go (nat_le (from + count) (length source) && nat_le (target + count) (length entries))
      where
        go : (yes : Bool) → IfOk (if yes then Ok (overwrite entries target (items_at source from count)) else Err TableBounds) (ValuesAreWithin region)
        go true = overwrite-within region entries target (items_at source from count) within (items-within region source from count fits)
        go false = tt

    grows-table : (address : ℕ) → Has region.tables address → (table : TableInstance) → ValuesAreWithin region table.entries → (v : Val)
        → ValueIsWithin region v → (count : ℕ) (values : List Val) → ValuesAreWithin region values
        → Agree (grow_table a frame address table v count values) (grow_table b frame address table v count values)
    grows-table address there table held v fits count values within =
        subst (λ (n : ℕ). Agree (grow_table a frame address table v count values)
        (if can_grow n most_entries table.ty.limits count then Grown (entries_cost count) (with_table b address (grow_entries table v count))
        frame.locals (I32 table.ty.limits.min ∷ values) else Done instruction_cost b frame.locals (I32 4294967295 ∷ values)))
        (sym agree.entries) (go (can_grow a.entries most_entries table.ty.limits count))
      where
        go : (yes : Bool)
            → Agree (if yes then Grown (entries_cost count) (with_table a address (grow_entries table v count)) frame.locals
            (I32 table.ty.limits.min ∷ values) else Done instruction_cost a frame.locals (I32 4294967295 ∷ values))
            (if yes then Grown (entries_cost count) (with_table b address (grow_entries table v count)) frame.locals
            (I32 table.ty.limits.min ∷ values) else Done instruction_cost b frame.locals (I32 4294967295 ∷ values))
        go true = (
          with_table b address (grow_entries table v count),
          refl,
          table-moves region a b closed agree address there (grow_entries table v count) (append-within region table.entries (replicate count v) held (replicate-within region count v fits)),
          own.locals,
          (tt, within),
        )
        go false = stays instruction_cost (I32 4294967295 ∷ values) (tt, within)

    in-table : (address : ℕ) → Has region.tables address → (table : TableInstance) → ValuesAreWithin region table.entries → (op : TableOp) (values : List Val) → ValuesAreWithin region values
        → Agree (table_effect a frame address table op values) (table_effect b frame address table op values)
    in-table address there table held (table_op.Get x) (I32 i ∷ values) within = reads (read_entry table.entries i) (entry-read table.entries held i) values within.1
    in-table address there table held (table_op.Set x) (v ∷ (I32 i ∷ values)) within = writes-table instruction_cost address there table
        (write_entry table.entries i v) (entry-written table.entries held i v within.0) values within.1.1
    in-table address there table held (table_op.Size x) values within = stays instruction_cost _ (tt, within)
    in-table address there table held (table_op.Grow x) (I32 count ∷ (v ∷ values)) within = grows-table address there table held v within.1.0 count values within.1.1
    in-table address there table held (table_op.Fill x) (I32 count ∷ (v ∷ (I32 offset ∷ values))) within =
        writes-table (entries_cost count) address there table (fill_entries table.entries offset v count) (entries-filled table.entries held offset v count within.1.0) values within.1.1.1
    in-table address there table held op values within = refl

    on-table : (o : Option (ℕ × TableInstance)) → Found region.tables a.tables o → (op : TableOp) (values : List Val) → ValuesAreWithin region values
        → Agree (on_table a frame o op values) (on_table b frame o op values)
    on-table None found op values within = refl
    on-table (Some (address, table)) found op values within = in-table address found.0 table (closed.tables address table found.0 found.1) op values within

    on-its-table : (x : ℕ) (op : TableOp) (values : List Val) → ValuesAreWithin region values
        → Agree (on_table a frame (table_at a frame x) op values) (on_table b frame (table_at b frame x) op values)
    on-its-table x op values within =
        let (same, found) = table-found x in
        subst (λ (o : Option (ℕ × TableInstance)). Agree (on_table a frame (table_at a frame x) op values) (on_table b frame o op values)) (sym same)
        (on-table (table_at a frame x) found op values within)

    copies-table : (into from : Option (ℕ × TableInstance)) → Found region.tables a.tables into → Found region.tables a.tables from → (values : List Val) → ValuesAreWithin region values
        → Agree (copy_table a frame into from values) (copy_table b frame into from values)
    copies-table (Some (address, table)) (Some (other, source)) found found' (I32 count ∷ (I32 from ∷ (I32 target ∷ values))) within =
        writes-table (entries_cost count) address found.0 table (copy_entries table.entries source.entries target from count)
        (entries-copied table.entries source.entries (closed.tables address table found.0 found.1) (closed.tables other source found'.0 found'.1) target from count) values within.1.1.1
    copies-table into from found found' values within = refl

    inits-table : (into : Option (ℕ × TableInstance)) (from : Option (ℕ × ElementInstance)) → Found region.tables a.tables into
        → Found region.elements a.elements from → (values : List Val) → ValuesAreWithin region values
        → Agree (init_table a frame into from values) (init_table b frame into from values)
    inits-table (Some (address, table)) (Some (other, segment)) found found' (I32 count ∷ (I32 from ∷ (I32 target ∷ values))) within =
        writes-table (entries_cost count) address found.0 table (copy_entries table.entries segment.references target from count)
        (entries-copied table.entries segment.references (closed.tables address table found.0 found.1) (closed.elements other segment found'.0 found'.1) target from count) values within.1.1.1
    inits-table into from found found' values within = refl

    drops-elements : (o : Option (ℕ × ElementInstance)) → Found region.elements a.elements o → (values : List Val) → ValuesAreWithin region values
        → Agree (drop_elements a frame o values) (drop_elements b frame o values)
    drops-elements None found values within = refl
    drops-elements (Some (address, segment)) found values within = (
      with_elements b address (record { ty = segment.ty; references = [] }),
      refl,
      elements-moves region a b closed agree address found.0 (record { ty = segment.ty; references = [] }) tt,
      own.locals,
      within,
    )

    tables : (op : TableOp) (values : List Val) → ValuesAreWithin region values → Agree (table_or_elements_effect a frame op values) (table_or_elements_effect b frame op values)
    tables (table_op.Copy target source) values within =
        let (same, found) = table-found target in
        let (same', found') = table-found source in
        subst (λ (o : Option (ℕ × TableInstance)).
        Agree (copy_table a frame (table_at a frame target) (table_at a frame source) values)
        (copy_table b frame o (table_at b frame source) values)) (sym same)
        (subst (λ (o : Option (ℕ × TableInstance)).
        Agree (copy_table a frame (table_at a frame target) (table_at a frame source) values)
        (copy_table b frame (table_at a frame target) o values)) (sym same')
        (copies-table (table_at a frame target) (table_at a frame source) found found' values within))
    tables (table_op.Init segment x) values within =
        let (same, found) = table-found x in
        let (same', found') = elements-found segment in
        subst (λ (o : Option (ℕ × TableInstance)).
        Agree (init_table a frame (table_at a frame x) (elements_at a frame segment) values)
        (init_table b frame o (elements_at b frame segment) values)) (sym same)
        (subst (λ (o : Option (ℕ × ElementInstance)).
        Agree (init_table a frame (table_at a frame x) (elements_at a frame segment) values) (init_table b frame (table_at a frame x) o values)) (sym same')
        (inits-table (table_at a frame x) (elements_at a frame segment) found found' values within))
    tables (table_op.ElemDrop x) values within =
        let (same, found) = elements-found x in
        subst (λ (o : Option (ℕ × ElementInstance)). Agree (drop_elements a frame (elements_at a frame x) values) (drop_elements b frame o values))
        (sym same) (drops-elements (elements_at a frame x) found values within)
    tables (table_op.Get x) values within = on-its-table x (table_op.Get x) values within
    tables (table_op.Set x) values within = on-its-table x (table_op.Set x) values within
    tables (table_op.Size x) values within = on-its-table x (table_op.Size x) values within
    tables (table_op.Grow x) values within = on-its-table x (table_op.Grow x) values within
    tables (table_op.Fill x) values within = on-its-table x (table_op.Fill x) values within

    -- ---- memories

    data-found : (x : ℕ) → (data_at b frame x ≡ data_at a frame x) × Found region.datas a.datas (data_at a frame x)
    data-found x =
        let (same, found) = located region region.datas a.datas b.datas agree.datas (instance_of a frame.instance).datas has.datas x in
        (ap (λ (i : ModuleInstance). locate b.datas (slice_get i.datas x)) same-instance ∙ same, found)

    abbrev its_memory : Store → Option (ℕ × MemoryInstance)
    its_memory store = locate store.memories (slice_get (instance_of store frame.instance).memories 0)

    memory-found : (its_memory b ≡ its_memory a) × Found region.memories a.memories (its_memory a)
    memory-found =
        let (same, found) = located region region.memories a.memories b.memories agree.memories (instance_of a frame.instance).memories has.memories 0 in
        (ap (λ (i : ModuleInstance). locate b.memories (slice_get i.memories 0)) same-instance ∙ same, found)

    writes-memory : (cost address : ℕ) → Has region.memories address → (memory : MemoryInstance) (r : Result (List ℕ) Trap) (values : List Val) → ValuesAreWithin region values
        → Agree (write_memory a frame cost address memory r values) (write_memory b frame cost address memory r values)
    writes-memory cost address there memory (Ok bytes) values within = (
      with_memory b address (record { limits = memory.limits; bytes = bytes }),
      refl,
      memory-moves region a b closed agree address there (record { limits = memory.limits; bytes = bytes }),
      own.locals,
      within,
    )
    writes-memory cost address there memory (Err trap) values within = refl

    loaded-within : (op : LoadOp) (n : ℕ) → ValueIsWithin region (loaded_value op n)
    loaded-within (load.Whole W32) n = tt
    loaded-within (load.Whole W64) n = tt
    loaded-within (load.Bits8 W32 Signed) n = tt
    loaded-within (load.Bits8 W32 Unsigned) n = tt
    loaded-within (load.Bits8 W64 Signed) n = tt
    loaded-within (load.Bits8 W64 Unsigned) n = tt
    loaded-within (load.Bits16 W32 Signed) n = tt
    loaded-within (load.Bits16 W32 Unsigned) n = tt
    loaded-within (load.Bits16 W64 Signed) n = tt
    loaded-within (load.Bits16 W64 Unsigned) n = tt
    loaded-within (load.Bits32 Signed) n = tt
    loaded-within (load.Bits32 Unsigned) n = tt

    loads : (op : LoadOp) (bytes : List ℕ) (offset : ℕ) → IfOk (load_from op bytes offset) (ValueIsWithin region)
    loads op bytes offset = go (nat_le (offset + load_width op) (length bytes))
      where
        go : (yes : Bool) → IfOk (if yes then Ok (loaded_value op (number_of_bytes (items_at bytes offset (load_width op)))) else Err MemoryBounds) (ValueIsWithin region)
        go true = loaded-within op (number_of_bytes (items_at bytes offset (load_width op)))
        go false = tt

    stores : (address : ℕ) → Has region.memories address → (memory : MemoryInstance) (op : StoreOp) (offset : ℕ) (o : Option ℕ) (values : List Val) → ValuesAreWithin region values
        → Agree (store_number a frame address memory op offset o values) (store_number b frame address memory op offset o values)
    stores address there memory op offset None values within = refl
    stores address there memory op offset (Some n) values within = writes-memory instruction_cost address there memory (store_into memory.bytes offset (store_width op) n) values within

    grows-memory : (address : ℕ) → Has region.memories address → (memory : MemoryInstance) (pages : ℕ) (values : List Val) → ValuesAreWithin region values
        → Agree (grow_memory a frame address memory pages values) (grow_memory b frame address memory pages values)
    grows-memory address there memory pages values within =
        subst (λ (n : ℕ). Agree (grow_memory a frame address memory pages values)
        (if can_grow n most_pages memory.limits pages then Grown (growth_cost pages) (with_memory b address (grow_by memory pages)) frame.locals
        (I32 memory.limits.min ∷ values) else Done instruction_cost b frame.locals (I32 4294967295 ∷ values)))
        (sym agree.pages) (go (can_grow a.pages most_pages memory.limits pages))
      where
        go : (yes : Bool)
            → Agree (if yes then Grown (growth_cost pages) (with_memory a address (grow_by memory pages)) frame.locals
            (I32 memory.limits.min ∷ values) else Done instruction_cost a frame.locals (I32 4294967295 ∷ values))
            (if yes then Grown (growth_cost pages) (with_memory b address (grow_by memory pages)) frame.locals (I32 memory.limits.min ∷ values) else
            Done instruction_cost b frame.locals (I32 4294967295 ∷ values))
        go true = (with_memory b address (grow_by memory pages), refl, memory-moves region a b closed agree address there (grow_by memory pages), own.locals, (tt, within))
        go false = stays instruction_cost (I32 4294967295 ∷ values) (tt, within)

    inits-memory : (address : ℕ) → Has region.memories address → (memory : MemoryInstance) (o : Option (ℕ × DataInstance)) (values : List Val) → ValuesAreWithin region values
        → Agree (init_memory a frame address memory o values) (init_memory b frame address memory o values)
    inits-memory address there memory (Some (at, segment)) (I32 count ∷ (I32 from ∷ (I32 target ∷ values))) within =
        writes-memory (bulk_cost count) address there memory (copy_bytes memory.bytes segment.bytes target from count) values within.1.1.1
    inits-memory address there memory o values within = refl

    in-memory : (address : ℕ) → Has region.memories address → (memory : MemoryInstance) (op : MemoryOp) (values : List Val) → ValuesAreWithin region values
        → Agree (memory_effect a frame address memory op values) (memory_effect b frame address memory op values)
    in-memory address there memory (Load op arg) (I32 i ∷ values) within = reads (load_from op memory.bytes (i + arg.offset)) (loads op memory.bytes (i + arg.offset)) values within.1
    in-memory address there memory (StoreNumber op arg) (v ∷ (I32 i ∷ values)) within = stores address there memory op (i + arg.offset) (stored_number op v) values within.1.1
    in-memory address there memory Size values within = stays instruction_cost _ (tt, within)
    in-memory address there memory Grow (I32 pages ∷ values) within = grows-memory address there memory pages values within.1
    in-memory address there memory Fill (I32 count ∷ (I32 value ∷ (I32 target ∷ values))) within = writes-memory (bulk_cost count) address there
        memory (fill_bytes memory.bytes target value count) values within.1.1.1
    in-memory address there memory Copy (I32 count ∷ (I32 from ∷ (I32 target ∷ values))) within =
        writes-memory (bulk_cost count) address there memory (copy_bytes memory.bytes memory.bytes target from count) values within.1.1.1
    in-memory address there memory (Init x) values within =
        let (same, found) = data-found x in
        subst (λ (o : Option (ℕ × DataInstance)).
        Agree (init_memory a frame address memory (data_at a frame x) values) (init_memory b frame address memory o values)) (sym same)
        (inits-memory address there memory (data_at a frame x) values within)
    in-memory address there memory op values within = refl

    of-memory : (o : Option (ℕ × MemoryInstance)) → Found region.memories a.memories o → (op : MemoryOp) (values : List Val)
        → ValuesAreWithin region values → Agree (in_memory a frame o op values) (in_memory b frame o op values)
    of-memory None found op values within = refl
    of-memory (Some (address, memory)) found op values within = in-memory address found.0 memory op values within

    of-its-memory : (op : MemoryOp) (values : List Val) → ValuesAreWithin region values → Agree (in_memory a frame (its_memory a) op values) (in_memory b frame (its_memory b) op values)
    of-its-memory op values within =
        subst (λ (o : Option (ℕ × MemoryInstance)). Agree (in_memory a frame (its_memory a) op values) (in_memory b frame o op values))
        (sym memory-found.0) (of-memory (its_memory a) memory-found.1 op values within)

    drops-data : (o : Option (ℕ × DataInstance)) → Found region.datas a.datas o → (values : List Val) → ValuesAreWithin region values → Agree (drop_data a frame o values) (drop_data b frame o values)
    drops-data None found values within = refl
    drops-data (Some (address, segment)) found values within =
        (with_data b address (record { bytes = [] }), refl, data-moves region a b closed agree address found.0 (record { bytes = [] }), own.locals, within)

    memories : (op : MemoryOp) (values : List Val) → ValuesAreWithin region values → Agree (memory_or_data_effect a frame op values) (memory_or_data_effect b frame op values)
    memories (DataDrop x) values within =
        let (same, found) = data-found x in
        subst (λ (o : Option (ℕ × DataInstance)). Agree (drop_data a frame (data_at a frame x) values) (drop_data b frame o values)) (sym same) (drops-data (data_at a frame x) found values within)
    memories op values within = of-its-memory op values within

    -- ---- all of them

    pub effects : (op : PlainOp) (values : List Val) → ValuesAreWithin region values → Agree (effect a frame op values) (effect b frame op values)
    effects (Control Unreachable) values within = refl
    effects (Control Nop) values within = stays instruction_cost values within
    effects (Variable op) values within = variables op values within
    effects (Numeric op) values within = numerics op values within
    effects (Reference op) values within = references op values within
    effects (Table op) values within = tables op values within
    effects (Memory op) values within = memories op values within
    effects (Parametric op) values within = parametrics op values within
    effects (SelectTyped types) values within = selects values within
    effects (I32Const n) values within = stays instruction_cost _ (tt, within)
    effects (I64Const n) values within = stays instruction_cost _ (tt, within)
    effects op values within = refl
