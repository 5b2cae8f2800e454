-- A store as its instances see it, and their memories in it.
use Rattle.std.proofs.Common.{◌≡◌, ℕ, ◌<◌, ◌≤◌, List, length, Option, Some, None, slice_get, refl, ap, subst, ◌∙◌, arith}
use Rattle.std.proofs.lemmas.List.{get_or-set_same, length-set, set-get_or, set-set}
use Rattle.std.proofs.lemmas.Option.{slice_get-get_or, slice_get-map}
use Rattle.std.specs.Prelude.{option_map}
use Rattle.meaning.specs.execution.Memories.{MemoryInstance}
use Rattle.meaning.specs.execution.Store.{Store}
use Rattle.soundness.specs.Stores.{InstanceIsValid, MemoryIsValid, StoreIsValid}
use Rattle.soundness.proofs.Values.{All-at}
use Rattle.store.specs.Contents.{Contents, IsLoaded, module_instance_of, store_with}
use Rattle.store.specs.State.{StateContents, memory_of, no_memory, put_memory}
use Rattle.store.specs.declared.instances.Instance.{Instance}
use Rattle.interpreter.specs.Worlds.{Sees, World, with_memory_back}

module _ (code : Contents) (state : StateContents) where
  abbrev store : Store
  store = store_with code state

  -- ---- worlds

  abbrev memory_seen : Option ℕ → MemoryInstance
  memory_seen None = no_memory
  memory_seen (Some a) = memory_of state a

  put-back-there : (o : Option ℕ) → store_with code (with_memory_back state o (memory_seen o)) ≡ store
  put-back-there None = refl
  put-back-there (Some a) = ap (λ (ms : List MemoryInstance). record store { memories = ms }) (set-get_or state.contents.memories a no_memory)

  abbrev world_at : (number : ℕ) → Instance → Option ℕ → World
  world_at number i o = record {
    code = code;
    state = state;
    number = number;
    instance = i;
    flat = i.loaded.value.flat;
    address = o;
    limits = (memory_seen o).limits;
    bytes = (memory_seen o).bytes;
  }

  -- Each instance sees it.
  pub seen-from : (number : ℕ) → (i : Instance) × IsLoaded code number i → (w : World) × Sees code store number w
  seen-from number (i, loaded) = (
    world_at number i (slice_get i.addresses.memories.items 0),
    record {
      store = put-back-there (slice_get i.addresses.memories.items 0);
      code = refl;
      seen_from = refl;
      instance = record { loaded = loaded; flat = refl; memory = refl };
    },
  )

  -- The same with its memory taken out.
  pub seen-taken : (number : ℕ) (i : Instance) → IsLoaded code number i → (a : ℕ) → slice_get i.addresses.memories.items 0 ≡ Some a
      → Sees code store number (record {
        code = code;
        state = put_memory state a no_memory;
        number = number;
        instance = i;
        flat = i.loaded.value.flat;
        address = Some a;
        limits = (memory_of state a).limits;
        bytes = (memory_of state a).bytes;
      })
  seen-taken number i loaded a has = record {
    store = ap (λ (ms : List MemoryInstance). record store { memories = ms }) (set-set state.contents.memories a no_memory (memory_of state a) ∙ set-get_or state.contents.memories a no_memory);
    code = refl;
    seen_from = refl;
    instance = record { loaded = loaded; flat = refl; memory = has };
  }

  -- ---- its memory

  module _ (number : ℕ) (i : Instance) (there : slice_get code.instances number ≡ Some i) where
    module _ (valid : StoreIsValid store) (a : ℕ) (has : slice_get i.addresses.memories.items 0 ≡ Some a) where
      pub memory-inside : a < length state.contents.memories
      memory-inside =
          let in_store = slice_get-map module_instance_of code.instances number ∙ ap (option_map module_instance_of) there in
          All-at (λ (n : ℕ). n < length state.contents.memories) i.addresses.memories.items 0 a has
          (All-at (InstanceIsValid store) store.instances number (module_instance_of i) in_store valid.instances).memories

      memory-valid : MemoryIsValid state.bounds.pages (memory_of state a)
      memory-valid = All-at (MemoryIsValid state.bounds.pages) state.contents.memories a (memory_of state a) (slice_get-get_or state.contents.memories a no_memory memory-inside) valid.memories

-- What holds for a memory after it is back in a valid store.
pub record IsBack (state : StateContents) (a : ℕ) (memory : MemoryInstance) : Type 0 where
  pub inside : a < length state.contents.memories
  pub few : memory.limits.min ≤ state.bounds.pages

pub is-back : (code : Contents) (state : StateContents) (number : ℕ) (i : Instance) → slice_get code.instances number ≡ Some i → (a : ℕ)
    → slice_get i.addresses.memories.items 0 ≡ Some a → (memory : MemoryInstance)
    → StoreIsValid (store_with code (put_memory state a memory)) → IsBack state a memory
is-back code state number i there a has memory valid =
    let in_set = memory-inside code (put_memory state a memory) number i there valid a has in
    let as_many = length-set state.contents.memories a memory in
    let inside : a < length state.contents.memories = omega (arith, in_set, as_many) in
    let found : MemoryIsValid state.bounds.pages memory =
    subst (MemoryIsValid state.bounds.pages) (get_or-set_same state.contents.memories a memory no_memory inside) (memory-valid code (put_memory state a memory) number i there valid a has) in
    record { inside = inside; few = found.size.bounded }
