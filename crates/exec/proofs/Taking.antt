-- A run of code of one instance, whose memory is taken out of the state and put back.
use Rattle.std.proofs.Common.{◌≡◌, ℕ, List, ◌++◌, length, take, drop, Option, Some, None, slice_get, refl, ap, sym, subst, ◌∙◌, arith}
use Rattle.std.proofs.lemmas.List.{take-append-le, take_all}
use Rattle.std.proofs.lemmas.Option.{same_Some}
use Rattle.std.specs.Global.{Vec}
use Rattle.core_types.specs.declared.types.Limits.{Limits}
use Rattle.meaning.specs.execution.Memories.{MemoryInstance}
use Rattle.soundness.specs.Stores.{StoreIsValid}
use Rattle.sidetable.specs.declared.flat_module.FlatModule.{FlatModule}
use Rattle.store.specs.Contents.{Contents, IsLoaded, store_with}
use Rattle.store.specs.State.{StateContents, memory_of, no_memory, put_memory}
use Rattle.store.specs.declared.instances.Instance.{Instance}
use Rattle.interpreter.specs.Looping.{loop_at}
use Rattle.exec.specs.Resting.{AtRest, RestsSome, RunsFrom, at_rest, loop_of, store_around}
use Rattle.interpreter.specs.Whole.{StopsAt}
use Rattle.interpreter.specs.Worlds.{Sees, World, store_in}
use Rattle.interpreter.specs.declared.machine.Frame.{Frame}
use Rattle.interpreter.specs.declared.machine.Position.{Position}
use Rattle.interpreter.specs.declared.machine.Stop.{Stop}
use Rattle.exec.proofs.Resting.{runs-on, stops-valid}
use Rattle.exec.proofs.Seeing.{seen-taken}

-- Items written over others are the first ones afterwards.
pub written-over : (n : ℕ) (xs ys : List ℕ) → length ys ≡ n → take n (ys ++ drop (length ys) xs) ≡ ys
written-over n xs ys size = take-append-le n ys (drop (length ys) xs) (omega (arith, size)) ∙ take_all n ys (omega (arith, size))

-- The instance whose code rests is loaded.
pub loaded-there : (bound : ℕ) (r : AtRest) → RestsSome bound r → (i : Instance) → slice_get r.code.instances r.call.position.instance ≡ Some i → IsLoaded r.code r.call.position.instance i
loaded-there bound r (u, rests) i there =
    let seen = rests.sees.instance.loaded in
    let its : IsLoaded r.code r.call.position.instance rests.world.instance =
    subst (λ (n : ℕ). IsLoaded r.code n rests.world.instance) rests.sees.seen_from
    (subst (λ (c : Contents). IsLoaded c rests.world.number rests.world.instance) rests.sees.code seen) in
    subst (λ (j : Instance). IsLoaded r.code r.call.position.instance j) (same_Some rests.world.instance i (sym its.there ∙ there)) its

module _ (bound : ℕ) (r : AtRest) (i : Instance) (loaded : IsLoaded r.code r.call.position.instance i) (flat : FlatModule) (flat_is : flat ≡ i.loaded.value.flat) where
  abbrev pub world : Option ℕ → Limits → StateContents → List ℕ → World
  world o limits state bytes = record {
    code = r.code;
    state = state;
    number = r.call.position.instance;
    instance = i;
    flat = flat;
    address = o;
    limits = limits;
    bytes = bytes;
  }

  abbrev pub IsSeen : World → Type 0
  IsSeen = Sees r.code (store_around r) r.call.position.instance

  pub none-taken : slice_get i.addresses.memories.items 0 ≡ None → (limits : Limits) (bytes : List ℕ) → IsSeen (world None limits r.state bytes)
  none-taken has limits bytes = record { store = refl; code = refl; seen_from = refl; instance = record { loaded = loaded; flat = flat_is; memory = has } }

  pub one-taken : (a : ℕ) → slice_get i.addresses.memories.items 0 ≡ Some a → (memory : MemoryInstance) → memory ≡ memory_of r.state a
      → (limits : Limits) → limits ≡ memory.limits → (bytes : List ℕ) → bytes ≡ memory.bytes
      → (state : StateContents) → state ≡ put_memory r.state a no_memory → IsSeen (world (Some a) limits state bytes)
  one-taken a has memory memory_is limits limits_are bytes bytes_are state state_is =
      let wanted = seen-taken r.code r.state r.call.position.instance i loaded a has in
      let its = subst (λ (z : FlatModule).
      IsSeen (record (world (Some a) (memory_of r.state a).limits (put_memory r.state a no_memory) (memory_of r.state a).bytes) { flat = z }))
      (sym flat_is) wanted in
      subst (λ (z : StateContents). IsSeen (world (Some a) limits z bytes)) (sym state_is)
      (subst (λ (z : Limits). IsSeen (world (Some a) z (put_memory r.state a no_memory) bytes)) (sym limits_are)
      (subst (λ (z : List ℕ). IsSeen (world (Some a) memory.limits (put_memory r.state a no_memory) z)) (sym bytes_are)
      (subst (λ (z : MemoryInstance). IsSeen (world (Some a) z.limits (put_memory r.state a no_memory) z.bytes)) (sym memory_is) its)))

  -- The memory is back.
  pub store-back : (a : ℕ) (memory : MemoryInstance) (limits : Limits) → limits ≡ memory.limits → (bytes : List ℕ) → length bytes ≡ length memory.bytes → (state state' : StateContents)
      → state' ≡ put_memory state a (record {
        limits = memory.limits;
        bytes = take (length memory.bytes) (bytes ++ drop (length bytes) memory.bytes);
      }) → store_in (world (Some a) limits state bytes)
      ≡ store_with r.code state'
  store-back a memory limits limits_are bytes size state state' state_is =
      ap (λ (z : Limits). store_in (world (Some a) z state bytes)) limits_are
      ∙ ap (λ (z : List ℕ). store_with r.code (put_memory state a (record { limits = memory.limits; bytes = z }))) (sym (written-over (length memory.bytes) memory.bytes bytes size))
      ∙ ap (store_with r.code) (sym state_is)

  module _ (w w' : World) (sees : IsSeen w) (cells : List ℕ) (cells_are : cells ≡ r.call.cells.items) (s : Stop) (cells' : List ℕ) (callers' : List Frame) (position' : Position)
      (stops : StopsAt bound (loop_at w cells r.call.callers r.call.position) s (loop_at w' cells' callers' position')) where
    same : StopsAt bound (loop_of w r) s (loop_at w' cells' callers' position')
    same = subst (λ (z : List ℕ). StopsAt bound (loop_at w z r.call.callers r.call.position) s (loop_at w' cells' callers' position')) cells_are stops

    pub valid-after : RestsSome bound r → StoreIsValid (store_in w')
    valid-after some = stops-valid bound r w sees some s (loop_at w' cells' callers' position') same

    pub runs-after : w'.code ≡ r.code → (state' : StateContents) → store_in w' ≡ store_with r.code state' → (v : Vec ℕ) → v.items ≡ cells'
        → RunsFrom bound r s (at_rest r.code state' (record { cells = v; callers = callers'; position = position' }))
    runs-after code_is state' store_is v v_is =
        runs-on bound r (at_rest r.code state' (record { cells = v; callers = callers'; position = position' })) w w' sees code_is store_is s
        (subst (λ (z : List ℕ). StopsAt bound (loop_of w r) s (loop_at w' z callers' position')) (sym v_is) same)
