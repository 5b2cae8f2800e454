-- A host function keeps the types of all host functions.
use Rattle.std.proofs.Common.{◌≡◌, ℕ, zero, suc, List, [], ◌∷◌, refl, ap, sym, ◌∙◌}
use Rattle.std.specs.Prelude.{Option, Some, None, option_map, slice_get, slice_set}
use Rattle.core_types.specs.declared.outcome.Val.{Val}
use Rattle.core_types.specs.declared.types.FuncType.{FuncType}
use Rattle.meaning.specs.execution.Hosts.{HasType, HostsHaveTypes, IsHostCall, IsHostStep, with_bytes, with_lent_bytes}
use Rattle.meaning.specs.execution.Memories.{MemoryInstance}
use Rattle.meaning.specs.execution.Runs.{Answer}
use Rattle.meaning.specs.execution.Store.{FunctionInstance, Store}

-- The functions of a store are not changed by bytes of a memory.
functions-with : (store : Store) (address : ℕ) (there : Option MemoryInstance) (bytes : List ℕ) → (with_bytes store address there bytes).functions ≡ store.functions
functions-with store address None bytes = refl
functions-with store address (Some memory) bytes = refl

functions-lent : (store : Store) (lent : Option ℕ) (bytes : List ℕ) → (with_lent_bytes store lent bytes).functions ≡ store.functions
functions-lent store None bytes = refl
functions-lent store (Some address) bytes = functions-with store address (slice_get store.memories address) bytes

module _ {H : Type 0} (host_type : H → FuncType) where
  -- One that has a type exists.
  pub host-there : (hosts : List H) (number : ℕ) (t : FuncType) → HasType host_type hosts number t → (host : H) × (slice_get hosts number ≡ Some host) × (host_type host ≡ t)
  host-there hosts number t has = go (slice_get hosts number) refl has
    where
      go : (found : Option H) → slice_get hosts number ≡ found → option_map host_type found ≡ Some t → (host : H) × (slice_get hosts number ≡ Some host) × (host_type host ≡ t)
      go None e is = absurd cc
      go (Some host) e is = (host, e, cc)

module _ {H : Type 0} (host_type : H → FuncType) (Answers : H → List Val → List ℕ → Answer → List ℕ → H → Type 0) where
  -- Replacing a host function with another one of its type leaves all types unchanged.
  typed-set : (hosts : List H) (number : ℕ) (host host' : H) → slice_get hosts number ≡ Some host → host_type host' ≡ host_type host
      → (other : ℕ) → option_map host_type (slice_get (slice_set hosts number host') other) ≡ option_map host_type (slice_get hosts other)
  typed-set [] number host host' is same other = absurd cc
  typed-set (g ∷ gs) zero host host' is same zero =
      let first : g ≡ host = cc in
      ap Some (same ∙ ap host_type (sym first))
  typed-set (g ∷ gs) zero host host' is same (suc other) = refl
  typed-set (g ∷ gs) (suc number) host host' is same zero = refl
  typed-set (g ∷ gs) (suc number) host host' is same (suc other) = typed-set gs number host host' is same other

  types-kept : {hosts hosts' : List H} {number : ℕ} {arguments : List Val} {bytes bytes' : List ℕ} {answer : Answer}
      → IsHostCall host_type Answers hosts number arguments bytes answer bytes' hosts' → (other : ℕ) (t : FuncType) → HasType host_type hosts other t
      → HasType host_type hosts' other t
  types-kept {hosts = hosts} {number = number} done other t has =
      ap (λ (hs : List H). option_map host_type (slice_get hs other)) done.hosts_are ∙ typed-set hosts number done.host done.host' done.is done.same_type other ∙ has

  pub hosts-kept : (hosts hosts' : List H) (number : ℕ) (lent : Option ℕ) (arguments : List Val) (store store' : Store) (answer : Answer)
      → IsHostStep host_type Answers hosts number lent arguments store answer store' hosts' → HostsHaveTypes host_type store hosts
      → HostsHaveTypes host_type store' hosts'
  hosts-kept hosts hosts' number lent arguments store store' answer (bytes', done, is) typed address other f there in_host =
      let functions : store'.functions ≡ store.functions = ap (λ (s : Store). s.functions) is ∙ functions-lent store lent bytes' in
      types-kept done other f.ty (typed address other f (ap (λ (fs : List FunctionInstance). slice_get fs address) (sym functions) ∙ there) in_host)
