-- Effects on tables and element segments.
use Rattle.std.proofs.Common.{◌≡◌, ℕ, ◌+◌, ◌<◌, ◌^◌, List, [], ◌∷◌, Bool, true, false, length, replicate, Option, Some, None, refl, ap, subst, sym, ◌∙◌, arith, slice_get, slice_set, if◌then◌else◌}
use Rattle.std.proofs.lemmas.List.{length-append, length-replicate, length-set}
use Rattle.std.proofs.lemmas.List.Elements.{All-append, All-replicate}
use Rattle.std.specs.List.{All}
use Rattle.std.specs.Prelude.{◌&&◌, Result, Ok, Err, IfOk, nat_le, nat_lt}
use Rattle.core_types.specs.declared.op.TableOp.{TableOp}
use Rattle.core_types.specs.declared.op.TableOp.TheVariants as table_op
use Rattle.core_types.specs.declared.outcome.Trap.{Trap}
use Rattle.core_types.specs.declared.outcome.Trap.TheVariants.{TableBounds}
use Rattle.core_types.specs.declared.outcome.Val.{Val}
use Rattle.core_types.specs.declared.outcome.Val.TheVariants.{I32}
use Rattle.core_types.specs.declared.types.Limits.{Limits}
use Rattle.core_types.specs.declared.types.OperandType.{OperandType}
use Rattle.core_types.specs.declared.types.RefType.{RefType}
use Rattle.core_types.specs.declared.types.TableType.{TableType}
use Rattle.core_types.specs.declared.types.ValType.{ValType}
use Rattle.core_types.specs.declared.types.ValType.TheVariants as ty
use Rattle.meaning.specs.execution.Configurations.{Frame}
use Rattle.meaning.specs.execution.Costs.{entries_cost, instruction_cost}
use Rattle.meaning.specs.execution.Effects.{Done, Grown, grow_table, push_read, table_or_elements_effect, write_table}
use Rattle.meaning.specs.execution.Memories.{can_grow, is_within, raised}
use Rattle.meaning.specs.execution.Storage.{items_at, overwrite}
use Rattle.meaning.specs.execution.Store.{Store, instance_of, with_elements, with_table}
use Rattle.meaning.specs.execution.Tables.{ElementInstance, TableInstance, copy_entries, entry_or_trap, fill_entries, grow_entries, most_entries, write_entry}
use Rattle.meaning.specs.soundness.Values.{ValueHasType, ValuesHaveTypes}
use Rattle.meaning.specs.validation.Instructions.{IsElement, IsTable, table_rule}
use Rattle.meaning.specs.validation.Types.{AreOrdered, function_type, reference_type}
use Rattle.soundness.specs.Configurations.{FrameHasPlace}
use Rattle.soundness.specs.Places.{Place, context_at}
use Rattle.soundness.specs.Stores.{ElementIsValid, SizeIsValid, StoreIsValid, TableIsValid, TableStays}
use Rattle.soundness.proofs.Effects.{EffectIsGood, stays}
use Rattle.soundness.proofs.Extension.{instance-valid, types-found}
use Rattle.soundness.proofs.Locals.{Works, WorksAs}
use Rattle.soundness.proofs.Operands.{i32-on-top, value-on-top}
use Rattle.soundness.proofs.Overwrites.{at-most, both, items-at-all, items-at-length, overwrite-all, overwrite-length}
use Rattle.soundness.proofs.Values.{All-at}
use Rattle.soundness.proofs.Writes.{All-set, elements-dropped-extends, elements-dropped-valid, grows, leaves, table-extends, table-valid}

-- ---- growth

-- The size after an allowed growth stays within the bound, within what any may have, and within its maximum.
pub grown-size : (bound most : ℕ) (limits : Limits) (more : ℕ) → can_grow bound most limits more ≡ true → SizeIsValid (raised limits more) bound most
grown-size bound most limits more is =
    let (first, rest) = both _ _ is in
    let (second, third) = both _ _ rest in
    record { bounded = at-most _ _ first; few = at-most _ _ second; ordered = by limits.max third }
  where
    by : (max : Option ℕ) → is_within max (limits.min + more) ≡ true → AreOrdered (record { min = limits.min + more; max = max })
    by None within = tt
    by (Some m) within = at-most _ _ within

module _ (store : Store) (valid : StoreIsValid store) (place : Place) (frame : Frame) (own : FrameHasPlace store frame place) where
  good : (cost : ℕ) (values : List Val) (stack : List ValType) → ValuesHaveTypes store values stack → EffectIsGood store place stack (Done cost store frame.locals values)
  good cost values stack typed = stays store valid place frame own cost values stack typed

  abbrev IsOf : RefType → Val → Type 0
  IsOf t v = ValueHasType store v (reference_type t)

  abbrev AreOf : RefType → List Val → Type 0
  AreOf t vs = All (IsOf t) vs

  -- ---- one table

  module _ (address : ℕ) (table : TableInstance) (at : slice_get store.tables address ≡ Some table) where
    there : TableIsValid store table
    there = All-at (TableIsValid store) store.tables address table at valid.tables

    -- Entries of the table's type in the place of the same number of entries.
    abbrev Fit : List Val → Type 0
    Fit entries = (length entries ≡ length table.entries) × AreOf table.ty.element entries

    written : (cost : ℕ) (r : Result (List Val) Trap) → IfOk r Fit → (values : List Val) (stack : List ValType) → ValuesHaveTypes store values stack
        → EffectIsGood store place stack (write_table store frame cost address table r values)
    written cost (Err trap) fits values stack typed = tt
    written cost (Ok entries) fits values stack typed =
        let new : TableInstance = record { ty = table.ty; entries = entries } in
        let new_valid : TableIsValid store new = record { size = there.size; entries_are = fits.0 ∙ there.entries_are; entries = fits.1 } in
        let stays : TableStays table new = (refl, (omega (arith), refl)) in
        leaves store valid place frame own (with_table store address new) (table-extends store valid address table new at stays new_valid)
        (table-valid store valid address table new at stays new_valid) refl cost values stack typed

    written-entry : (i : ℕ) (v : Val) → ValueHasType store v (reference_type table.ty.element) → IfOk (write_entry table.entries i v) Fit
    written-entry i v fits = by (nat_lt i (length table.entries))
      where
        by : (b : Bool) → IfOk (if b then Ok (slice_set table.entries i v) else Err TableBounds) Fit
        by true = (length-set table.entries i v, All-set (IsOf table.ty.element) table.entries i v there.entries fits)
        by false = tt

    filled-entries : (offset : ℕ) (v : Val) (count : ℕ) → ValueHasType store v (reference_type table.ty.element) → IfOk (fill_entries table.entries offset v count) Fit
    filled-entries offset v count fits = by (nat_le (offset + count) (length table.entries)) refl
      where
        by : (b : Bool) → nat_le (offset + count) (length table.entries) ≡ b → IfOk (if b then Ok (overwrite table.entries offset (replicate count v)) else Err TableBounds) Fit
        by true is = (
          overwrite-length table.entries offset (replicate count v) (let inside = at-most _ _ is in omega (arith, inside, length-replicate count v)),
          overwrite-all table.entries offset (IsOf table.ty.element) there.entries (replicate count v) (All-replicate (IsOf table.ty.element) count v fits),
        )
        by false is = tt

    copied-entries : (source : List Val) (target from count : ℕ) → AreOf table.ty.element source → IfOk (copy_entries table.entries source target from count) Fit
    copied-entries source target from count fits = by (nat_le (from + count) (length source) && nat_le (target + count) (length table.entries)) refl
      where
        by : (b : Bool) → (nat_le (from + count) (length source) && nat_le (target + count) (length table.entries)) ≡ b
            → IfOk (if b then Ok (overwrite table.entries target (items_at source from count)) else Err TableBounds) Fit
        by true is =
            let (first, second) = both _ _ is in
            let copied = items-at-length source from count (at-most _ _ first) in (
              overwrite-length table.entries target (items_at source from count) (let inside = at-most _ _ second in omega (arith, inside, copied)),
              overwrite-all table.entries target (IsOf table.ty.element) there.entries (items_at source from count) (items-at-all source from (IsOf table.ty.element) fits count),
            )
        by false is = tt

    size-fits : table.ty.limits.min < 2 ^ 32
    size-fits = let few = there.size.few in omega (arith, few)

    read : (o : Option Val) (i : ℕ) → slice_get table.entries i ≡ o → (values : List Val) (below : List ValType) → ValuesHaveTypes store values below
        → EffectIsGood store place (reference_type table.ty.element ∷ below) (push_read store frame (entry_or_trap o) values)
    read None i is values below typed = tt
    read (Some v) i is values below typed = good instruction_cost (v ∷ values) (reference_type table.ty.element ∷ below) (All-at (IsOf table.ty.element) table.entries i v is there.entries, typed)

    grown : (v : Val) → ValueHasType store v (reference_type table.ty.element) → (count : ℕ) (values : List Val) (below : List ValType) → ValuesHaveTypes store values below
        → EffectIsGood store place (ty.I32 ∷ below) (grow_table store frame address table v count values)
    grown v fits count values below typed = by (can_grow store.entries most_entries table.ty.limits count) refl
      where
        new : TableInstance
        new = grow_entries table v count

        by : (b : Bool) → can_grow store.entries most_entries table.ty.limits count ≡ b
            → EffectIsGood store place (ty.I32 ∷ below)
            (if b then Grown (entries_cost count) (with_table store address (grow_entries table v count)) frame.locals (I32 table.ty.limits.min ∷ values)
            else Done instruction_cost store frame.locals (I32 4294967295 ∷ values))
        by false is = good instruction_cost (I32 4294967295 ∷ values) (ty.I32 ∷ below) ((refl, omega (arith)), typed)
        by true is =
            let new_valid : TableIsValid store (grow_entries table v count) = record {
              size = grown-size store.entries most_entries table.ty.limits count is;
              entries_are = omega (arith, there.entries_are, length-append table.entries (replicate count v), length-replicate count v);
              entries = All-append (IsOf table.ty.element) table.entries (replicate count v) there.entries (All-replicate (IsOf table.ty.element) count v fits);
            } in
            let stays : TableStays table (grow_entries table v count) = (refl, (omega (arith), refl)) in
            grows store valid place frame own (with_table store address (grow_entries table v count)) (table-extends store valid address table (grow_entries table v count) at stays new_valid)
            (table-valid store valid address table (grow_entries table v count) at stays new_valid) refl (entries_cost count)
            (I32 table.ty.limits.min ∷ values) (ty.I32 ∷ below) ((refl, size-fits), typed)

  -- ---- tables and segments of the instance

  module _ (x : ℕ) (t : RefType) (is : IsTable (context_at store place) x t) where
    found : (address : ℕ) × (table : TableInstance) × (slice_get (instance_of store place.instance).tables x ≡ Some address) × (slice_get store.tables address ≡ Some table) × (table.ty.element ≡ t)
    found =
        let (type, there, element) = is in
        let (address, table, at, held, same) = types-found _ _ store.tables (instance_of store place.instance).tables x type (instance-valid store valid place.instance).tables there in
        (address, table, at, held, ap (λ (u : TableType). u.element) same ∙ element)

    gets : WorksAs store place (function_type (ty.I32 ∷ []) (reference_type t ∷ [])) (table_or_elements_effect store frame (table_op.Get x))
    gets values below typed =
        let (i, rest, top, fits, left) = i32-on-top store values below typed in
        let (address, table, at, held, same) = found in
        rw (top, own.0, at, held)
        (subst (λ (u : RefType). EffectIsGood store place (reference_type u ∷ below) (push_read store frame (entry_or_trap (slice_get table.entries i)) rest)) same
        (read address table held (slice_get table.entries i) i refl rest below left))

    sets : WorksAs store place (function_type (ty.I32 ∷ reference_type t ∷ []) []) (table_or_elements_effect store frame (table_op.Set x))
    sets values below typed =
        let (v, first, top, v_typed, more) = value-on-top store values (ty.I32 ∷ below) (reference_type t) typed in
        let (i, rest, middle, fits, left) = i32-on-top store first below more in
        let (address, table, at, held, same) = found in
        let v_fits : ValueHasType store v (reference_type table.ty.element) = rw same v_typed in
        rw (top, middle, own.0, at, held) (written address table held instruction_cost (write_entry table.entries i v) (written-entry address table held i v v_fits) rest below left)

    sizes : WorksAs store place (function_type [] (ty.I32 ∷ [])) (table_or_elements_effect store frame (table_op.Size x))
    sizes values below typed =
        let (address, table, at, held, same) = found in
        rw (own.0, at, held) (good instruction_cost (I32 table.ty.limits.min ∷ values) (ty.I32 ∷ below) ((refl, size-fits address table held), typed))

    grow : WorksAs store place (function_type (reference_type t ∷ ty.I32 ∷ []) (ty.I32 ∷ [])) (table_or_elements_effect store frame (table_op.Grow x))
    grow values below typed =
        let (count, first, top, fits, more) = i32-on-top store values (reference_type t ∷ below) typed in
        let (v, rest, middle, v_typed, left) = value-on-top store first below (reference_type t) more in
        let (address, table, at, held, same) = found in
        let v_fits : ValueHasType store v (reference_type table.ty.element) = rw same v_typed in
        rw (top, middle, own.0, at, held) (grown address table held v v_fits count rest below left)

    fills : WorksAs store place (function_type (ty.I32 ∷ reference_type t ∷ ty.I32 ∷ []) []) (table_or_elements_effect store frame (table_op.Fill x))
    fills values below typed =
        let (count, first, top, fits, more) = i32-on-top store values (reference_type t ∷ ty.I32 ∷ below) typed in
        let (v, second, middle, v_typed, others) = value-on-top store first (ty.I32 ∷ below) (reference_type t) more in
        let (offset, rest, last, fits', left) = i32-on-top store second below others in
        let (address, table, at, held, same) = found in
        let v_fits : ValueHasType store v (reference_type table.ty.element) = rw same v_typed in
        rw (top, middle, last, own.0, at, held)
        (written address table held (entries_cost count) (fill_entries table.entries offset v count)
        (filled-entries address table held offset v count v_fits) rest below left)

  copies : (target source : ℕ) (t : RefType) → IsTable (context_at store place) target t → IsTable (context_at store place) source t
      → WorksAs store place (function_type (ty.I32 ∷ ty.I32 ∷ ty.I32 ∷ []) []) (table_or_elements_effect store frame (table_op.Copy target source))
  copies target source t is_target is_source values below typed =
      let (count, first, top, fits, more) = i32-on-top store values (ty.I32 ∷ ty.I32 ∷ below) typed in
      let (from, second, middle, fits', others) = i32-on-top store first (ty.I32 ∷ below) more in
      let (into, rest, last, fits'', left) = i32-on-top store second below others in
      let (address, table, at, held, same) = found target t is_target in
      let (other, origin, at', held', same') = found source t is_source in
      let entries_fit = subst (λ (u : RefType). AreOf u origin.entries) (same' ∙ sym same) (All-at (TableIsValid store) store.tables other origin held' valid.tables).entries in
      rw (top, middle, last, own.0, at, at', held, held')
      (written address table held (entries_cost count) (copy_entries table.entries origin.entries into from count)
      (copied-entries address table held origin.entries into from count entries_fit) rest below left)

  module _ (segment : ℕ) (t : RefType) (is : IsElement (context_at store place) segment t) where
    found-elements : (address : ℕ) × (e : ElementInstance) × (slice_get (instance_of store place.instance).elements segment ≡ Some address) × (slice_get store.elements address ≡ Some e) × (e.ty ≡ t)
    found-elements = types-found _ _ store.elements (instance_of store place.instance).elements segment t (instance-valid store valid place.instance).elements is

    inits : (x : ℕ) → IsTable (context_at store place) x t → WorksAs store place (function_type (ty.I32 ∷ ty.I32 ∷ ty.I32 ∷ []) []) (table_or_elements_effect store frame (table_op.Init segment x))
    inits x is_table values below typed =
        let (count, first, top, fits, more) = i32-on-top store values (ty.I32 ∷ ty.I32 ∷ below) typed in
        let (from, second, middle, fits', others) = i32-on-top store first (ty.I32 ∷ below) more in
        let (into, rest, last, fits'', left) = i32-on-top store second below others in
        let (address, table, at, held, same) = found x t is_table in
        let (other, e, at', held', same') = found-elements in
        let references_fit = subst (λ (u : RefType). AreOf u e.references) (same' ∙ sym same) (All-at (ElementIsValid store) store.elements other e held' valid.elements) in
        rw (top, middle, last, own.0, at, at', held, held')
        (written address table held (entries_cost count) (copy_entries table.entries e.references into from count)
        (copied-entries address table held e.references into from count references_fit) rest below left)

    drops : WorksAs store place (function_type [] []) (table_or_elements_effect store frame (table_op.ElemDrop segment))
    drops values below typed =
        let (address, e, at, held, same) = found-elements in
        rw (own.0, at, held)
        (leaves store valid place frame own (with_elements store address (record { ty = e.ty; references = [] }))
        (elements-dropped-extends store valid address e held) (elements-dropped-valid store valid address e held) refl instruction_cost values below typed)

  pub table-works : (op : TableOp) (operands results : List OperandType) → table_rule (context_at store place) op operands results
      → Works store place operands results (table_or_elements_effect store frame op)
  table-works (table_op.Get x) operands results (t, is, type) given known_are = (function_type (ty.I32 ∷ []) (reference_type t ∷ []), type, gets x t is)
  table-works (table_op.Set x) operands results (t, is, type) given known_are = (function_type (ty.I32 ∷ reference_type t ∷ []) [], type, sets x t is)
  table-works (table_op.Size x) operands results (t, is, type) given known_are = (function_type [] (ty.I32 ∷ []), type, sizes x t is)
  table-works (table_op.Grow x) operands results (t, is, type) given known_are = (function_type (reference_type t ∷ ty.I32 ∷ []) (ty.I32 ∷ []), type, grow x t is)
  table-works (table_op.Fill x) operands results (t, is, type) given known_are = (function_type (ty.I32 ∷ reference_type t ∷ ty.I32 ∷ []) [], type, fills x t is)
  table-works (table_op.Copy target source) operands results (t, is, is', type) given known_are = (function_type (ty.I32 ∷ ty.I32 ∷ ty.I32 ∷ []) [], type, copies target source t is is')
  table-works (table_op.Init segment x) operands results (t, is, is', type) given known_are = (function_type (ty.I32 ∷ ty.I32 ∷ ty.I32 ∷ []) [], type, inits segment t is' x is)
  table-works (table_op.ElemDrop segment) operands results (t, is, type) given known_are = (function_type [] [], type, drops segment t is)
