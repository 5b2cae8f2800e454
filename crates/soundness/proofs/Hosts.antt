-- Host functions answer well if no results are references to functions.
use Rattle.std.proofs.Common.{◌≡◌, ℕ, zero, suc, List, [], ◌∷◌, length, map, Some, false, refl, ap, sym, subst, ◌∙◌, arith, slice_get}
use Rattle.std.proofs.lemmas.List.Elements.{All-append}
use Rattle.std.specs.List.{All}
use Rattle.std.specs.Prelude.{Option, None}
use Rattle.core_types.specs.declared.module.Func.{Func as Function}
use Rattle.core_types.specs.declared.module.Module.{Module}
use Rattle.core_types.specs.declared.outcome.Val.{Val}
use Rattle.core_types.specs.declared.outcome.Val.TheVariants.{I32, I64, FuncRef, ExternRef}
use Rattle.core_types.specs.declared.types.FuncType.{FuncType}
use Rattle.core_types.specs.declared.types.ValType.{ValType}
use Rattle.meaning.proofs.lemmas.HostSteps.{host-there, hosts-kept}
use Rattle.meaning.specs.embedding.Creation.{has_funcref}
use Rattle.meaning.specs.execution.Hosts.{AnswersWith, HasType, IsHostStep, bytes_in, lent_bytes, with_bytes, with_lent_bytes}
use Rattle.meaning.specs.execution.Memories.{MemoryInstance}
use Rattle.meaning.specs.execution.Modules.{new_function, with_module}
use Rattle.meaning.specs.execution.Runs.{Answer, HostTrap, Results}
use Rattle.meaning.specs.execution.Storage.{AreBytes}
use Rattle.meaning.specs.execution.Store.{FunctionInstance, InHost, ModuleInstance, ObjectLists, Store}
use Rattle.meaning.specs.execution.Values.{FitsWidth, type_of}
use Rattle.meaning.specs.soundness.Values.{ValueHasType, ValuesHaveTypes}
use Rattle.soundness.specs.Hosts.{AreReady, GivesNoFuncref}
use Rattle.soundness.specs.Runs.{AnswerHasTypes, HostsAnswerWell}
use Rattle.soundness.specs.Stores.{Extends, MemoryIsValid, StoreIsValid}
use Rattle.soundness.proofs.Effects.{Extends-same}
use Rattle.soundness.proofs.Values.{All-at, All-from}
use Rattle.soundness.proofs.Writes.{All-set, memory-extends, memory-valid}

-- ---- results

module _ (store : Store) where
  first-typed : (v : Val) (types : List ValType) → has_funcref (type_of v ∷ types) ≡ false → FitsWidth v → ValueHasType store v (type_of v) × (has_funcref types ≡ false)
  first-typed (I32 n) types none fits = ((refl, fits), none)
  first-typed (I64 n) types none fits = ((refl, fits), none)
  first-typed (FuncRef a) types none fits = absurd cc
  first-typed (ExternRef x) types none fits = ((refl, fits), none)

  results-typed : (values : List Val) (types : List ValType) → map type_of values ≡ types → has_funcref types ≡ false → All FitsWidth values → ValuesHaveTypes store values types
  results-typed [] [] same none fits = tt
  results-typed [] (t ∷ types) same none fits = absurd cc
  results-typed (v ∷ values) [] same none fits = absurd cc
  results-typed (v ∷ values) (t ∷ types) same none fits =
      let first : type_of v ≡ t = cc in
      let others : map type_of values ≡ types = cc in
      let (typed, none_behind) = first-typed v types (subst (λ (u : ValType). has_funcref (u ∷ types) ≡ false) (sym first) none) (fits 0 v (omega (arith))) in
      (subst (λ (u : ValType). ValueHasType store v u) first typed, results-typed values types others none_behind (λ k d inside. fits (suc k) d (omega (arith, inside))))

  answer-typed : (answer : Answer) (types : List ValType) → AnswersWith answer types → has_funcref types ≡ false → AnswerHasTypes store answer types
  answer-typed (Results values) types (same, fits) none = results-typed values types same none fits
  answer-typed (HostTrap code) types same none = tt

-- ---- bytes that are borrowed

lent-leaves : (store : Store) → StoreIsValid store → (lent : Option ℕ) (bytes : List ℕ) → length bytes ≡ length (lent_bytes store lent) → AreBytes bytes
    → Extends store (with_lent_bytes store lent bytes) × StoreIsValid (with_lent_bytes store lent bytes)
lent-leaves store valid None bytes same are_bytes = (Extends-same store, valid)
lent-leaves store valid (Some address) bytes same are_bytes = go (slice_get store.memories address) refl same
  where
    go : (found : Option MemoryInstance) → slice_get store.memories address ≡ found → length bytes ≡ length (bytes_in found)
        → Extends store (with_bytes store address found bytes) × StoreIsValid (with_bytes store address found bytes)
    go None is long = (Extends-same store, valid)
    go (Some memory) is long =
        let before = All-at (MemoryIsValid store.pages) store.memories address memory is valid.memories in
        let now : MemoryIsValid store.pages (record memory { bytes = bytes }) = record { size = before.size; bytes_are = long ∙ before.bytes_are; bytes = are_bytes } in (
          memory-extends store valid address memory (record memory { bytes = bytes }) is (omega (arith), refl) now,
          memory-valid store valid address memory (record memory { bytes = bytes }) is (omega (arith), refl) now,
        )

-- ---- host functions that are ready

module _ {H : Type 0} (host_type : H → FuncType) where
  pub ready-still : (old new : Store) (hosts : List H) → new.functions ≡ old.functions → AreReady host_type old hosts → AreReady host_type new hosts
  ready-still old new hosts same ready = record {
    typed = λ address number f there is. ready.typed address number f (ap (λ (fs : List FunctionInstance). slice_get fs address) (sym same) ∙ there) is;
    no_funcrefs = ready.no_funcrefs;
  }

  abbrev HasItsHost : List H → FunctionInstance → Type 0
  HasItsHost hosts f = (number : ℕ) → f.implementation ≡ InHost number → HasType host_type hosts number f.ty

  code-has-hosts : (hosts : List H) (instance : ℕ) (m : Module) (fs : List Function) → All (HasItsHost hosts) (map (new_function instance m) fs)
  code-has-hosts hosts instance m [] = λ k d inside. let wrong : ⊥ = omega (arith, inside) in absurd wrong
  code-has-hosts hosts instance m (f ∷ fs) =
      All-append (HasItsHost hosts) (new_function instance m f ∷ []) (map (new_function instance m) fs)
      (All-from (HasItsHost hosts) (new_function instance m f ∷ []) (λ k g is number in_host. absurd (only k g is number in_host))) (code-has-hosts hosts instance m fs)
    where
      only : (k : ℕ) (g : FunctionInstance) → slice_get (new_function instance m f ∷ []) k ≡ Some g → (number : ℕ) → g.implementation ≡ InHost number → ⊥
      only zero g is number in_host = let same : new_function instance m f ≡ g = cc in cc
      only (suc k) g is number in_host = cc

  pub ready-linked : (old : Store) (m : Module) (i : ModuleInstance) (objects : ObjectLists) (hosts : List H) → AreReady host_type old hosts → AreReady host_type (with_module old i m objects) hosts
  ready-linked old m i objects hosts ready =
      let before : All (HasItsHost hosts) old.functions = All-from (HasItsHost hosts) old.functions (λ k f is number in_host. ready.typed k number f is in_host) in
      let all = All-append (HasItsHost hosts) old.functions (map (new_function (length old.instances) m) m.funcs) before (code-has-hosts hosts (length old.instances) m m.funcs) in
      record {
        typed = λ address number f there is. All-at (HasItsHost hosts) _ address f there all number is;
        no_funcrefs = ready.no_funcrefs;
      }

module _ {H : Type 0} (host_type : H → FuncType) (Answers : H → List Val → List ℕ → Answer → List ℕ → H → Type 0) where
  -- Host functions are ready after a call.
  pub ready-kept : (hosts hosts' : List H) (number : ℕ) (lent : Option ℕ) (arguments : List Val) (old new : Store) (answer : Answer)
      → IsHostStep host_type Answers hosts number lent arguments old answer new hosts' → AreReady host_type old hosts → AreReady host_type new hosts'
  ready-kept hosts hosts' number lent arguments old new answer (bytes, call, new_is) ready =
      let none = All-at (GivesNoFuncref host_type) hosts number call.host call.is ready.no_funcrefs in
      record {
        typed = hosts-kept host_type Answers hosts hosts' number lent arguments old new answer (bytes, call, new_is) ready.typed;
        no_funcrefs = subst (All (GivesNoFuncref host_type)) (sym call.hosts_are)
            (All-set (GivesNoFuncref host_type) hosts number call.host' ready.no_funcrefs (ap (λ (u : FuncType). has_funcref u.results) call.same_type ∙ none));
      }

  pub hosts-answer-well : HostsAnswerWell (IsHostStep host_type Answers) (AreReady host_type)
  hosts-answer-well hosts hosts' number address lent arguments old new answer t valid ready there typed (bytes, call, new_is) =
      let has = ready.typed address number (record { ty = t; implementation = InHost number }) there refl in
      let (host, is, type_is) = host-there host_type hosts number t has in
      let one : call.host ≡ host = cc in
      let own_type : host_type call.host ≡ t = ap host_type one ∙ type_is in
      let none = All-at (GivesNoFuncref host_type) hosts number call.host call.is ready.no_funcrefs in
      let (extends, leaves) = lent-leaves old valid lent bytes call.same_length call.are_bytes in
      record {
        extends = subst (λ (s : Store). Extends old s) (sym new_is) extends;
        valid = subst StoreIsValid (sym new_is) leaves;
        there = ready-kept hosts hosts' number lent arguments old new answer (bytes, call, new_is) ready;
        typed = subst (λ (u : FuncType). AnswerHasTypes old answer u.results) own_type (answer-typed old answer (host_type call.host).results call.typed none);
      }
