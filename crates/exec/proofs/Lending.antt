-- Host functions, and the memories that they borrow.
use Rattle.std.proofs.Common.{◌≡◌, ℕ, ◌<◌, List, [], ◌++◌, length, take, drop, refl, ap, sym, subst, ◌∙◌}
use Rattle.std.specs.Prelude.{Option, Some, None, slice_get}
use Rattle.std.proofs.lemmas.List.{take_at}
use Rattle.std.proofs.lemmas.Option.{slice_get-get_or}
use Rattle.core_types.specs.declared.outcome.Val.{Val}
use Rattle.core_types.specs.declared.types.FuncType.{FuncType}
use Rattle.meaning.specs.execution.Hosts.{HasType, IsHostCall, IsHostStep, bytes_in, lent_bytes, memory_lent, with_bytes, with_lent_bytes}
use Rattle.meaning.specs.execution.Memories.{MemoryInstance}
use Rattle.meaning.specs.execution.Runs.{Answer}
use Rattle.meaning.specs.execution.Store.{Store, with_memory}
use Rattle.store.specs.Contents.{Contents, store_with}
use Rattle.store.specs.State.{StateContents, memory_of, no_memory, with_lent}

-- If there is no memory, nothing changes.
with-none : (store : Store) (lent : Option ℕ) (bytes : List ℕ) → memory_lent store lent ≡ None → with_lent_bytes store lent bytes ≡ store
with-none store None bytes none = refl
with-none store (Some address) bytes none = ap (λ (there : Option MemoryInstance). with_bytes store address there bytes) none

-- A host function has one type.
pub one_type : {H : Type 0} (host_type : H → FuncType) (hosts : List H) (number : ℕ) (t u : FuncType) → HasType host_type hosts number t → HasType host_type hosts number u → t ≡ u
one_type host_type hosts number t u first second = let both = sym first ∙ second in cc

module _ {H : Type 0} (host_type : H → FuncType) (Answers : H → List Val → List ℕ → Answer → List ℕ → H → Type 0) (code : Contents) (state : StateContents)
    (hosts hosts' : List H) (number : ℕ) (lent : Option ℕ) (arguments : List Val) (answer : Answer) (bytes' : List ℕ) where
  pub step-unlent : memory_lent (store_with code state) lent ≡ None → IsHostCall host_type Answers hosts number arguments [] answer bytes' hosts'
      → IsHostStep host_type Answers hosts number lent arguments (store_with code state) answer (store_with code state) hosts'
  step-unlent none done =
      let bytes : lent_bytes (store_with code state) lent ≡ [] = ap bytes_in none in (
        bytes',
        subst (λ (bs : List ℕ). IsHostCall host_type Answers hosts number arguments bs answer bytes' hosts') (sym bytes) done,
        sym (with-none (store_with code state) lent bytes' none),
      )

  module _ (a : ℕ) (is : lent ≡ Some a) (within : a < length state.contents.memories) where
    there : slice_get state.contents.memories a ≡ Some (memory_of state a)
    there = slice_get-get_or state.contents.memories a no_memory within

    pub step-lent : IsHostCall host_type Answers hosts number arguments (memory_of state a).bytes answer bytes' hosts'
        → IsHostStep host_type Answers hosts number lent arguments (store_with code state) answer (store_with code (with_lent state a bytes')) hosts'
    step-lent done =
        let bytes : lent_bytes (store_with code state) (Some a) ≡ (memory_of state a).bytes = ap bytes_in there in
        let same : take (length (memory_of state a).bytes) (bytes' ++ drop (length bytes') (memory_of state a).bytes) ≡ bytes' =
        take_at bytes' (drop (length bytes') (memory_of state a).bytes) (length (memory_of state a).bytes) done.same_length in
        let new : with_lent_bytes (store_with code state) (Some a) bytes' ≡ with_memory (store_with code state) a (record (memory_of state a) { bytes = bytes' }) =
        ap (λ (m : Option MemoryInstance). with_bytes (store_with code state) a m bytes') there in
        rw is (
          bytes',
          subst (λ (bs : List ℕ). IsHostCall host_type Answers hosts number arguments bs answer bytes' hosts') (sym bytes) done,
          ap (λ (bs : List ℕ). with_memory (store_with code state) a (record (memory_of state a) { bytes = bs })) same ∙ sym new,
        )
