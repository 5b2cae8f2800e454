-- Effects on memories and data segments.
use Rattle.std.proofs.Common.{◌≡◌, ℕ, zero, suc, ◌+◌, ◌*◌, ◌%◌, ◌/◌, ◌<◌, ◌^◌, List, [], ◌∷◌, Bool, true, false, length, replicate, Some, refl, ap, ◌∙◌, arith, slice_get, get_or, if◌then◌else◌}
use Rattle.std.proofs.lemmas.List.{length-append, length-replicate}
use Rattle.std.proofs.lemmas.List.Elements.{All-append, All-replicate}
use Rattle.std.proofs.Math.Nat.{pow-suc}
use Rattle.std.proofs.lemmas.Option.{slice_get-get_or}
use Rattle.std.specs.Prelude.{◌&&◌, Result, Ok, Err, IfOk, nat_le}
use Rattle.core_types.specs.declared.op.LoadOp.{LoadOp}
use Rattle.core_types.specs.declared.op.LoadOp.TheVariants as load
use Rattle.core_types.specs.declared.op.MemArg.{MemArg}
use Rattle.core_types.specs.declared.op.MemoryOp.{MemoryOp}
use Rattle.core_types.specs.declared.op.MemoryOp.TheVariants as memory_op
use Rattle.core_types.specs.declared.op.Conversion.TheVariants.{I64Extend32S}
use Rattle.core_types.specs.declared.op.Sign.TheVariants.{Signed, Unsigned}
use Rattle.core_types.specs.declared.op.StoreOp.{StoreOp}
use Rattle.core_types.specs.declared.op.StoreOp.TheVariants as store_op
use Rattle.core_types.specs.declared.op.UnaryOp.TheVariants.{Extend8S, Extend16S}
use Rattle.core_types.specs.declared.op.Width.TheVariants.{W32, W64}
use Rattle.core_types.specs.declared.outcome.Trap.{Trap}
use Rattle.core_types.specs.declared.outcome.Trap.TheVariants.{MemoryBounds}
use Rattle.core_types.specs.declared.outcome.Val.{Val}
use Rattle.core_types.specs.declared.outcome.Val.TheVariants.{I32, I64, FuncRef, ExternRef}
use Rattle.core_types.specs.declared.types.OperandType.{OperandType}
use Rattle.core_types.specs.declared.types.ValType.{ValType}
use Rattle.core_types.specs.declared.types.ValType.TheVariants as ty
use Rattle.meaning.specs.execution.Configurations.{Frame}
use Rattle.meaning.specs.execution.Costs.{bulk_cost, growth_cost, instruction_cost}
use Rattle.meaning.specs.execution.Effects.{Done, Grown, grow_memory, memory_or_data_effect, push_read, write_memory}
use Rattle.meaning.specs.execution.Memories.{MemoryInstance, can_grow, copy_bytes, fill_bytes, grow_by, load_from, loaded_value, page_size, store_into, stored_number}
use Rattle.meaning.specs.validation.Instructions.{load_width, store_width, HasMemory, load_type, memory_rule, store_type}
use Rattle.meaning.specs.execution.Storage.{AreBytes, bytes_of_number, items_at, number_of_bytes, overwrite}
use Rattle.meaning.specs.execution.Store.{DataInstance, Store, instance_of, with_data, with_memory}
use Rattle.meaning.specs.soundness.Values.{ValueHasType, ValuesHaveTypes}
use Rattle.meaning.specs.validation.Types.{function_type, most_pages}
use Rattle.meaning.proofs.lemmas.OperatorRanges.{conversion_range, unary_range}
use Rattle.soundness.specs.Configurations.{FrameHasPlace}
use Rattle.soundness.specs.Places.{Place, context_at}
use Rattle.soundness.specs.Stores.{DataIsValid, MemoryIsValid, MemoryStays, StoreIsValid}
use Rattle.soundness.proofs.Effects.{EffectIsGood, stays}
use Rattle.soundness.proofs.Extension.{instance-valid, types-found}
use Rattle.soundness.proofs.Locals.{Works, WorksAs}
use Rattle.soundness.proofs.Operands.{i32-on-top, value-on-top}
use Rattle.soundness.proofs.Overwrites.{at-most, both, items-at-all, items-at-length, overwrite-all, overwrite-length}
use Rattle.soundness.proofs.Tables.{grown-size}
use Rattle.soundness.proofs.Values.{All-at}
use Rattle.soundness.proofs.Writes.{data-dropped-extends, data-dropped-valid, grows, leaves, memory-extends, memory-valid}

-- ---- numbers and bytes

abbrev IsByte : ℕ → Type 0
IsByte byte = byte < 2 ^ 8

number-below : (bs : List ℕ) → AreBytes bs → number_of_bytes bs < 256 ^ length bs
number-below [] all = omega (arith)
number-below (b ∷ bs) all =
    let rest = number-below bs (λ k d inside. all (suc k) d (omega (arith, inside))) in
    let first : b < 2 ^ 8 = all 0 0 (omega (arith)) in
    omega (arith, rest, first, pow-suc 256 (length bs))

bytes-length : (count n : ℕ) → length (bytes_of_number count n) ≡ count
unfolding bytes_of_number
bytes-length zero n = refl
bytes-length (suc count) n = ap suc (bytes-length count (n / 256))

All-cons : (x : ℕ) (xs : List ℕ) → IsByte x → AreBytes xs → AreBytes (x ∷ xs)
All-cons x xs first others = All-append IsByte (x ∷ []) xs (All-replicate IsByte 1 x first) others

bytes-are : (count n : ℕ) → AreBytes (bytes_of_number count n)
unfolding bytes_of_number
bytes-are zero n = λ k d inside. let wrong : ⊥ = omega (arith, inside) in absurd wrong
bytes-are (suc count) n = All-cons (n % 256) (bytes_of_number count (n / 256)) (omega (arith)) (bytes-are count (n / 256))

-- ---- what a load gives and a store takes

module _ (store : Store) where
  loaded-typed : (op : LoadOp) (n : ℕ) → n < 256 ^ load_width op → ValueHasType store (loaded_value op n) (load_type op)
  loaded-typed (load.Whole W32) n fits = (refl, omega (arith, fits))
  loaded-typed (load.Whole W64) n fits = (refl, omega (arith, fits))
  loaded-typed (load.Bits8 W32 Signed) n fits = (refl, unary_range 32 Extend8S n)
  loaded-typed (load.Bits8 W32 Unsigned) n fits = (refl, omega (arith, fits))
  loaded-typed (load.Bits8 W64 Signed) n fits = (refl, unary_range 64 Extend8S n)
  loaded-typed (load.Bits8 W64 Unsigned) n fits = (refl, omega (arith, fits))
  loaded-typed (load.Bits16 W32 Signed) n fits = (refl, unary_range 32 Extend16S n)
  loaded-typed (load.Bits16 W32 Unsigned) n fits = (refl, omega (arith, fits))
  loaded-typed (load.Bits16 W64 Signed) n fits = (refl, unary_range 64 Extend16S n)
  loaded-typed (load.Bits16 W64 Unsigned) n fits = (refl, omega (arith, fits))
  loaded-typed (load.Bits32 Signed) n fits = (refl, conversion_range I64Extend32S n (omega (arith, fits)))
  loaded-typed (load.Bits32 Unsigned) n fits = (refl, omega (arith, fits))

  stored-found : (op : StoreOp) (v : Val) → ValueHasType store v (store_type op) → (n : ℕ) × (stored_number op v ≡ Some n)
  stored-found (store_op.Whole W32) (I32 n) typed = (n, refl)
  stored-found (store_op.Whole W32) (I64 n) typed = absurd cc
  stored-found (store_op.Whole W32) (FuncRef a) typed = absurd cc
  stored-found (store_op.Whole W32) (ExternRef x) typed = absurd cc
  stored-found (store_op.Whole W64) (I32 n) typed = absurd cc
  stored-found (store_op.Whole W64) (I64 n) typed = (n, refl)
  stored-found (store_op.Whole W64) (FuncRef a) typed = absurd cc
  stored-found (store_op.Whole W64) (ExternRef x) typed = absurd cc
  stored-found (store_op.Bits8 W32) (I32 n) typed = (n, refl)
  stored-found (store_op.Bits8 W32) (I64 n) typed = absurd cc
  stored-found (store_op.Bits8 W32) (FuncRef a) typed = absurd cc
  stored-found (store_op.Bits8 W32) (ExternRef x) typed = absurd cc
  stored-found (store_op.Bits8 W64) (I32 n) typed = absurd cc
  stored-found (store_op.Bits8 W64) (I64 n) typed = (n, refl)
  stored-found (store_op.Bits8 W64) (FuncRef a) typed = absurd cc
  stored-found (store_op.Bits8 W64) (ExternRef x) typed = absurd cc
  stored-found (store_op.Bits16 W32) (I32 n) typed = (n, refl)
  stored-found (store_op.Bits16 W32) (I64 n) typed = absurd cc
  stored-found (store_op.Bits16 W32) (FuncRef a) typed = absurd cc
  stored-found (store_op.Bits16 W32) (ExternRef x) typed = absurd cc
  stored-found (store_op.Bits16 W64) (I32 n) typed = absurd cc
  stored-found (store_op.Bits16 W64) (I64 n) typed = (n, refl)
  stored-found (store_op.Bits16 W64) (FuncRef a) typed = absurd cc
  stored-found (store_op.Bits16 W64) (ExternRef x) typed = absurd cc
  stored-found store_op.Bits32 (I32 n) typed = absurd cc
  stored-found store_op.Bits32 (I64 n) typed = (n, refl)
  stored-found store_op.Bits32 (FuncRef a) typed = absurd cc
  stored-found store_op.Bits32 (ExternRef x) typed = absurd cc

module _ (store : Store) (valid : StoreIsValid store) (place : Place) (frame : Frame) (own : FrameHasPlace store frame place) where
  good : (cost : ℕ) (values : List Val) (stack : List ValType) → ValuesHaveTypes store values stack → EffectIsGood store place stack (Done cost store frame.locals values)
  good cost values stack typed = stays store valid place frame own cost values stack typed

  -- ---- one memory

  module _ (address : ℕ) (memory : MemoryInstance) (at : slice_get store.memories address ≡ Some memory) where
    there : MemoryIsValid store.pages memory
    there = All-at (MemoryIsValid store.pages) store.memories address memory at valid.memories

    abbrev Fit : List ℕ → Type 0
    Fit bytes = (length bytes ≡ length memory.bytes) × AreBytes bytes

    written : (cost : ℕ) (r : Result (List ℕ) Trap) → IfOk r Fit → (values : List Val) (stack : List ValType) → ValuesHaveTypes store values stack
        → EffectIsGood store place stack (write_memory store frame cost address memory r values)
    written cost (Err trap) fits values stack typed = tt
    written cost (Ok bytes) fits values stack typed =
        let new : MemoryInstance = record { limits = memory.limits; bytes = bytes } in
        let new_valid : MemoryIsValid store.pages new = record { size = there.size; bytes_are = fits.0 ∙ there.bytes_are; bytes = fits.1 } in
        let stays : MemoryStays memory new = (omega (arith), refl) in
        leaves store valid place frame own (with_memory store address new) (memory-extends store valid address memory new at stays new_valid)
        (memory-valid store valid address memory new at stays new_valid) refl cost values stack typed

    overwritten : (offset : ℕ) (new : List ℕ) → AreBytes new → nat_le (offset + length new) (length memory.bytes) ≡ true → Fit (overwrite memory.bytes offset new)
    overwritten offset new bytes is = (overwrite-length memory.bytes offset new (at-most _ _ is), overwrite-all memory.bytes offset IsByte there.bytes new bytes)

    stored-bytes : (offset size n : ℕ) → IfOk (store_into memory.bytes offset size n) Fit
    stored-bytes offset size n = by (nat_le (offset + size) (length memory.bytes)) refl
      where
        by : (b : Bool) → nat_le (offset + size) (length memory.bytes) ≡ b → IfOk (if b then Ok (overwrite memory.bytes offset (bytes_of_number size n)) else Err MemoryBounds) Fit
        by true is = overwritten offset (bytes_of_number size n) (bytes-are size n) (rw (bytes-length size n) is)
        by false is = tt

    filled-bytes : (offset value count : ℕ) → IfOk (fill_bytes memory.bytes offset value count) Fit
    filled-bytes offset value count = by (nat_le (offset + count) (length memory.bytes)) refl
      where
        by : (b : Bool) → nat_le (offset + count) (length memory.bytes) ≡ b → IfOk (if b then Ok (overwrite memory.bytes offset (replicate count (value % 256))) else Err MemoryBounds) Fit
        by true is = overwritten offset (replicate count (value % 256)) (All-replicate IsByte count (value % 256) (omega (arith))) (rw (length-replicate count (value % 256)) is)
        by false is = tt

    copied-bytes : (source : List ℕ) (target from count : ℕ) → AreBytes source → IfOk (copy_bytes memory.bytes source target from count) Fit
    copied-bytes source target from count bytes = by (nat_le (from + count) (length source) && nat_le (target + count) (length memory.bytes)) refl
      where
        by : (b : Bool) → (nat_le (from + count) (length source) && nat_le (target + count) (length memory.bytes)) ≡ b
            → IfOk (if b then Ok (overwrite memory.bytes target (items_at source from count)) else Err MemoryBounds) Fit
        by true is =
            let (first, second) = both _ _ is in
            overwritten target (items_at source from count) (items-at-all source from IsByte bytes count) (rw (items-at-length source from count (at-most _ _ first)) second)
        by false is = tt

    size-fits : memory.limits.min < 2 ^ 32
    size-fits = let few = there.size.few in omega (arith, few)

    loaded : (op : LoadOp) (offset : ℕ) (values : List Val) (below : List ValType) → ValuesHaveTypes store values below
        → EffectIsGood store place (load_type op ∷ below) (push_read store frame (load_from op memory.bytes offset) values)
    loaded op offset values below typed = by (nat_le (offset + load_width op) (length memory.bytes)) refl
      where
        by : (b : Bool) → nat_le (offset + load_width op) (length memory.bytes) ≡ b
            → EffectIsGood store place (load_type op ∷ below)
            (push_read store frame (if b then Ok (loaded_value op (number_of_bytes (items_at memory.bytes offset (load_width op)))) else Err MemoryBounds) values)
        by true is =
            let read = items_at memory.bytes offset (load_width op) in
            let fits = rw (items-at-length memory.bytes offset (load_width op) (at-most _ _ is)) at (number-below read (items-at-all memory.bytes offset IsByte there.bytes (load_width op))) in
            good instruction_cost (loaded_value op (number_of_bytes read) ∷ values) (load_type op ∷ below) (loaded-typed store op (number_of_bytes read) fits, typed)
        by false is = tt

    grown : (pages : ℕ) (values : List Val) (below : List ValType) → ValuesHaveTypes store values below
        → EffectIsGood store place (ty.I32 ∷ below) (grow_memory store frame address memory pages values)
    grown pages values below typed = by (can_grow store.pages most_pages memory.limits pages) refl
      where
        by : (b : Bool) → can_grow store.pages most_pages memory.limits pages ≡ b
            → EffectIsGood store place (ty.I32 ∷ below)
            (if b then Grown (growth_cost pages) (with_memory store address (grow_by memory pages)) frame.locals (I32 memory.limits.min ∷ values)
            else Done instruction_cost store frame.locals (I32 4294967295 ∷ values))
        by false is = good instruction_cost (I32 4294967295 ∷ values) (ty.I32 ∷ below) ((refl, omega (arith)), typed)
        by true is =
            let new_valid : MemoryIsValid store.pages (grow_by memory pages) = record {
              size = grown-size store.pages most_pages memory.limits pages is;
              bytes_are = omega (arith, there.bytes_are, length-append memory.bytes (replicate (page_size * pages) 0), length-replicate {A = ℕ} (page_size * pages) 0);
              bytes = All-append IsByte memory.bytes (replicate (page_size * pages) 0) there.bytes (All-replicate IsByte (page_size * pages) 0 (omega (arith)));
            } in
            let stays : MemoryStays memory (grow_by memory pages) = (omega (arith), refl) in
            grows store valid place frame own (with_memory store address (grow_by memory pages)) (memory-extends store valid address memory (grow_by memory pages) at stays new_valid)
            (memory-valid store valid address memory (grow_by memory pages) at stays new_valid) refl (growth_cost pages) (I32 memory.limits.min ∷ values) (ty.I32 ∷ below) ((refl, size-fits), typed)

  -- ---- the memory and the segments of the instance

  module _ (is : HasMemory (context_at store place)) where
    found : (address : ℕ) × (memory : MemoryInstance) × (slice_get (instance_of store place.instance).memories 0 ≡ Some address) × (slice_get store.memories address ≡ Some memory)
    found =
        let (limits, there) = is in
        let (address, memory, at, held, same) = types-found _ _ store.memories (instance_of store place.instance).memories 0 limits (instance-valid store valid place.instance).memories there in
        (address, memory, at, held)

    loads : (op : LoadOp) (arg : MemArg) → WorksAs store place (function_type (ty.I32 ∷ []) (load_type op ∷ [])) (memory_or_data_effect store frame (memory_op.Load op arg))
    loads op arg values below typed =
        let (i, rest, top, fits, left) = i32-on-top store values below typed in
        let (address, memory, at, held) = found in
        rw (top, own.0, at, held) (loaded address memory held op (i + arg.offset) rest below left)

    stores : (op : StoreOp) (arg : MemArg) → WorksAs store place (function_type (ty.I32 ∷ store_type op ∷ []) []) (memory_or_data_effect store frame (memory_op.Store op arg))
    stores op arg values below typed =
        let (v, first, top, v_typed, more) = value-on-top store values (ty.I32 ∷ below) (store_type op) typed in
        let (i, rest, next, fits, left) = i32-on-top store first below more in
        let (address, memory, at, held) = found in
        let (n, number) = stored-found store op v v_typed in
        rw (top, next, own.0, at, held, number)
        (written address memory held instruction_cost (store_into memory.bytes (i + arg.offset) (store_width op) n)
        (stored-bytes address memory held (i + arg.offset) (store_width op) n) rest below left)

    sizes : WorksAs store place (function_type [] (ty.I32 ∷ [])) (memory_or_data_effect store frame memory_op.Size)
    sizes values below typed =
        let (address, memory, at, held) = found in
        rw (own.0, at, held) (good instruction_cost (I32 memory.limits.min ∷ values) (ty.I32 ∷ below) ((refl, size-fits address memory held), typed))

    grow : WorksAs store place (function_type (ty.I32 ∷ []) (ty.I32 ∷ [])) (memory_or_data_effect store frame memory_op.Grow)
    grow values below typed =
        let (pages, rest, top, fits, left) = i32-on-top store values below typed in
        let (address, memory, at, held) = found in
        rw (top, own.0, at, held) (grown address memory held pages rest below left)

    fills : WorksAs store place (function_type (ty.I32 ∷ ty.I32 ∷ ty.I32 ∷ []) []) (memory_or_data_effect store frame memory_op.Fill)
    fills values below typed =
        let (count, first, top, fits, more) = i32-on-top store values (ty.I32 ∷ ty.I32 ∷ below) typed in
        let (value, second, next, fits', others) = i32-on-top store first (ty.I32 ∷ below) more in
        let (target, rest, last, fits'', left) = i32-on-top store second below others in
        let (address, memory, at, held) = found in
        rw (top, next, last, own.0, at, held)
        (written address memory held (bulk_cost count) (fill_bytes memory.bytes target value count) (filled-bytes address memory held target value count) rest below left)

    copies : WorksAs store place (function_type (ty.I32 ∷ ty.I32 ∷ ty.I32 ∷ []) []) (memory_or_data_effect store frame memory_op.Copy)
    copies values below typed =
        let (count, first, top, fits, more) = i32-on-top store values (ty.I32 ∷ ty.I32 ∷ below) typed in
        let (from, second, next, fits', others) = i32-on-top store first (ty.I32 ∷ below) more in
        let (target, rest, last, fits'', left) = i32-on-top store second below others in
        let (address, memory, at, held) = found in
        rw (top, next, last, own.0, at, held)
        (written address memory held (bulk_cost count) (copy_bytes memory.bytes memory.bytes target from count)
        (copied-bytes address memory held memory.bytes target from count (there address memory held).bytes) rest below left)

  module _ (segment : ℕ) (inside : segment < (context_at store place).datas) where
    found-data : (address : ℕ) × (d : DataInstance) × (slice_get (instance_of store place.instance).datas segment ≡ Some address) × (slice_get store.datas address ≡ Some d)
    found-data =
        let datas = (instance_of store place.instance).datas in
        let at = slice_get-get_or datas segment 0 inside in
        let below = All-at (λ (a : ℕ). a < length store.datas) datas segment (get_or datas segment 0) at (instance-valid store valid place.instance).datas in
        let held = slice_get-get_or store.datas (get_or datas segment 0) (record { bytes = [] }) below in
        (get_or datas segment 0, get_or store.datas (get_or datas segment 0) (record { bytes = [] }), at, held)

    inits : HasMemory (context_at store place) → WorksAs store place (function_type (ty.I32 ∷ ty.I32 ∷ ty.I32 ∷ []) []) (memory_or_data_effect store frame (memory_op.Init segment))
    inits has values below typed =
        let (count, first, top, fits, more) = i32-on-top store values (ty.I32 ∷ ty.I32 ∷ below) typed in
        let (from, second, next, fits', others) = i32-on-top store first (ty.I32 ∷ below) more in
        let (target, rest, last, fits'', left) = i32-on-top store second below others in
        let (address, memory, at, held) = found has in
        let (other, d, at', held') = found-data in
        rw (top, next, last, own.0, at, held, at', held')
        (written address memory held (bulk_cost count) (copy_bytes memory.bytes d.bytes target from count)
        (copied-bytes address memory held d.bytes target from count (All-at DataIsValid store.datas other d held' valid.datas)) rest below left)

    drops : WorksAs store place (function_type [] []) (memory_or_data_effect store frame (memory_op.DataDrop segment))
    drops values below typed =
        let (address, d, at, held) = found-data in
        rw (own.0, at, held)
        (leaves store valid place frame own (with_data store address (record { bytes = [] })) (data-dropped-extends store valid address d held)
        (data-dropped-valid store valid address d held) refl instruction_cost values below typed)

  pub memory-works : (op : MemoryOp) (operands results : List OperandType) → memory_rule (context_at store place) op operands results
      → Works store place operands results (memory_or_data_effect store frame op)
  memory-works (memory_op.Load op arg) operands results (has, aligned, type) given known_are = (function_type (ty.I32 ∷ []) (load_type op ∷ []), type, loads has op arg)
  memory-works (memory_op.Store op arg) operands results (has, aligned, type) given known_are = (function_type (ty.I32 ∷ store_type op ∷ []) [], type, stores has op arg)
  memory-works memory_op.Size operands results (has, type) given known_are = (function_type [] (ty.I32 ∷ []), type, sizes has)
  memory-works memory_op.Grow operands results (has, type) given known_are = (function_type (ty.I32 ∷ []) (ty.I32 ∷ []), type, grow has)
  memory-works memory_op.Fill operands results (has, type) given known_are = (function_type (ty.I32 ∷ ty.I32 ∷ ty.I32 ∷ []) [], type, fills has)
  memory-works memory_op.Copy operands results (has, type) given known_are = (function_type (ty.I32 ∷ ty.I32 ∷ ty.I32 ∷ []) [], type, copies has)
  memory-works (memory_op.Init segment) operands results (has, inside, type) given known_are = (function_type (ty.I32 ∷ ty.I32 ∷ ty.I32 ∷ []) [], type, inits segment inside has)
  memory-works (memory_op.DataDrop segment) operands results (inside, type) given known_are = (function_type [] [], type, drops segment inside)
