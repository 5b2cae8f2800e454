-- Runs from typed configurations never go wrong.
use Rattle.std.proofs.Common.{◌≡◌, ℕ, List, [], reverse, Option, Some, None, refl, ap, subst, sym, ◌∙◌, arith, slice_get, inl, inr}
use Rattle.std.proofs.lemmas.List.{reverse-reverse}
use Rattle.core_types.specs.declared.outcome.Val.{Val}
use Rattle.core_types.specs.declared.types.GlobalType.{GlobalType}
use Rattle.core_types.specs.declared.types.ValType.{ValType}
use Rattle.meaning.specs.execution.Configurations.{Configuration, Frame, no_frame}
use Rattle.meaning.specs.execution.Instructions.{Next, Goes, Grows, Opens, CallsHost, Traps, Branches, Returns, TailCalls, Over, NotReady, next}
use Rattle.meaning.specs.execution.Runs.{Answer, Ending, IsEnd, IsReady, IsStep, NoHosts, Run, State, Steps, none, one_more, goes, grows, opens, calls}
use Rattle.meaning.specs.execution.Runs.{values_left, trapped, host_trapped, no_fuel, no_depth, no_memory, end, step}
use Rattle.meaning.specs.execution.Store.{DataInstance, FunctionInstance, GlobalInstance, ModuleInstance, Store}
use Rattle.meaning.specs.execution.Tables.{ElementInstance}
use Rattle.meaning.specs.soundness.Values.{ValuesHaveTypes}
use Rattle.soundness.specs.Configurations.{ConfigurationHasType, FrameHasPlace, IsGood}
use Rattle.soundness.specs.Places.{Place, outermost}
use Rattle.soundness.specs.Progress.{CanGoOn, IsOver, IsStuck, TypedRunsNeverGetStuck}
use Rattle.soundness.specs.Runs.{EndsTyped, EndsWell, HostsAnswerWell, IsOutside, IsTyped, NeverGoesWrong, NoConditions}
use Rattle.soundness.specs.Stores.{DataStays, ElementStays, Extends, GlobalStays, Keeps, MemoryStays, StoreIsValid, TableStays}
use Rattle.soundness.proofs.Effects.{Extends-same}
use Rattle.soundness.proofs.Extension.{configuration-extended}
use Rattle.soundness.proofs.Steps.{stays-good}
use Rattle.soundness.proofs.Values.{values-reversed}

-- ---- a chain of extensions

Keeps-through : {X : Type 0} (Stays : X → X → Type 0) → ((x y z : X) → Stays x y → Stays y z → Stays x z) → (a b c : List X) → Keeps Stays a b → Keeps Stays b c → Keeps Stays a c
Keeps-through Stays through a b c first second address x is =
    let (y, there, xy) = first address x is in
    let (z, last, yz) = second address y there in
    (z, last, through x y z xy yz)

global-through : (x y z : GlobalInstance) → GlobalStays x y → GlobalStays y z → GlobalStays x z
global-through x y z (type, constant) (type', constant') =
    (type ∙ type', λ is. constant is ∙ constant' (sym (ap (λ (t : GlobalType). t.mutability) type) ∙ is))

element-through : (x y z : ElementInstance) → ElementStays x y → ElementStays y z → ElementStays x z
element-through x y z (type, inl same) (type', inl same') = (type ∙ type', inl (same ∙ same'))
element-through x y z (type, inl same) (type', inr dropped) = (type ∙ type', inr dropped)
element-through x y z (type, inr dropped) (type', inl same) = (type ∙ type', inr (sym same ∙ dropped))
element-through x y z (type, inr dropped) (type', inr again) = (type ∙ type', inr again)

data-through : (x y z : DataInstance) → DataStays x y → DataStays y z → DataStays x z
data-through x y z (inl same) (inl same') = inl (same ∙ same')
data-through x y z (inl same) (inr dropped) = inr dropped
data-through x y z (inr dropped) (inl same) = inr (sym same ∙ dropped)
data-through x y z (inr dropped) (inr again) = inr again

pub Extends-through : (a b c : Store) → Extends a b → Extends b c → Extends a c
Extends-through a b c first second = record {
  functions = Keeps-through (λ (f g : FunctionInstance). f ≡ g) (λ x y z p q. p ∙ q) _ _ _ first.functions second.functions;
  instances = Keeps-through (λ (i j : ModuleInstance). i ≡ j) (λ x y z p q. p ∙ q) _ _ _ first.instances second.instances;
  tables = Keeps-through TableStays (λ x y z p q. (p.0 ∙ q.0, (omega (arith, p.1.0, q.1.0), p.1.1 ∙ q.1.1))) _ _ _ first.tables second.tables;
  memories = Keeps-through MemoryStays (λ x y z p q. (omega (arith, p.0, q.0), p.1 ∙ q.1)) _ _ _ first.memories second.memories;
  globals = Keeps-through GlobalStays global-through _ _ _ first.globals second.globals;
  elements = Keeps-through ElementStays element-through _ _ _ first.elements second.elements;
  datas = Keeps-through DataStays data-through _ _ _ first.datas second.datas;
  pages = second.pages ∙ first.pages;
  entries = second.entries ∙ first.entries;
}

-- ---- progress

module _ (frame : Frame) (place : Place) (out : IsOutside frame place) where
  outside : (store : Store) → FrameHasPlace store frame place
  outside store = (out.instance, rw (out.frame_locals, out.locals) tt)

  good-goes-on : (store : Store) (results : List ValType) (n : Next) → IsGood store place results n → CanGoOn n
  good-goes-on store results (Goes cost new own c) fine = inr tt
  good-goes-on store results (Grows cost new own c) fine = inr tt
  good-goes-on store results (Opens cost new c) fine = inr tt
  good-goes-on store results (CallsHost cost number lent arguments c) fine = inr tt
  good-goes-on store results (Traps cost trap) fine = inr tt
  good-goes-on store results (Branches label values) (types, named, on_top) = let none : slice_get [] label ≡ Some types = rw out.labels at named in absurd cc
  good-goes-on store results (Returns values) (types, named, on_top) = let none : None ≡ Some types = rw out.results at named in absurd cc
  good-goes-on store results (TailCalls lent f values) (address, is, named, on_top) = let none : None ≡ Some f.ty.results = rw out.results at named in absurd cc
  good-goes-on store results (Over values) fine = inl tt
  good-goes-on store results NotReady fine = absurd fine

  -- A typed configuration can take a step or is over.
  typed-goes-on : (store : Store) (configuration : Configuration) (results : List ValType) → StoreIsValid store
      → ConfigurationHasType store place configuration results → CanGoOn (next store frame configuration)
  typed-goes-on store configuration results valid typed =
      good-goes-on store results (next store frame configuration) (stays-good store place frame configuration results valid (outside store) typed)

-- What is not ready is stuck.
pub waiting-stuck : {n : Next} → n ≡ NotReady → IsStuck n
waiting-stuck is (inl over) = subst IsOver is over
waiting-stuck is (inr ready) = subst IsReady is ready

-- ---- steps and ends

module _ {H : Type 0} (HostStep : List H → ℕ → Option ℕ → List Val → Store → Answer → Store → List H → Type 0) (HaveHosts : Store → List H → Type 0)
    (kept : (old new : Store) (hosts : List H) → new.functions ≡ old.functions → HaveHosts old hosts → HaveHosts new hosts)
    (well : HostsAnswerWell HostStep HaveHosts) (bound : ℕ) (frame : Frame) (place : Place) (out : IsOutside frame place) where
  -- The result of a step from a typed configuration.
  record StepsTyped (results : List ValType) (old : State H) (new : State H) (configuration : Configuration) : Type 0 where
    extends : Extends old.store new.store
    valid : StoreIsValid new.store
    there : HaveHosts new.store new.hosts
    typed : ConfigurationHasType new.store place configuration results

  module _ (results : List ValType) (old : State H) (configuration : Configuration) (valid : StoreIsValid old.store) (there : HaveHosts old.store old.hosts)
      (typed : ConfigurationHasType old.store place configuration results) where
    good : IsGood old.store place results (next old.store frame configuration)
    good = stays-good old.store place frame configuration results valid (outside frame place out old.store) typed

    at : (n : Next) → next old.store frame configuration ≡ n → IsGood old.store place results n
    at n is = subst (λ (m : Next). IsGood old.store place results m) is good

    step-typed : {new : State H} {configuration' : Configuration} → IsStep HostStep bound frame old configuration new configuration' → StepsTyped results old new configuration'
    step-typed {new} {configuration'} (goes is enough fuel hosts) =
        let (more, new_valid, own, next_typed) = at _ is in
        record { extends = more.extends; valid = new_valid; there = rw hosts (kept old.store new.store old.hosts more.functions there); typed = next_typed }
    step-typed {new} {configuration'} (grows is enough fuel hosts) =
        let (more, new_valid, own, next_typed) = at _ is in
        record { extends = more.extends; valid = new_valid; there = rw hosts (kept old.store new.store old.hosts more.functions there); typed = next_typed }
    step-typed {new} {configuration'} (opens is enough fuel hosts within) =
        let (same, next_typed) = at _ is in
        record { extends = rw same (Extends-same old.store); valid = rw same valid; there = rw (hosts, same) there; typed = next_typed }
    step-typed {new} {configuration'} (calls is enough fuel told then) =
        let call = at _ is in
        let answer = well _ _ _ call.address _ _ old.store new.store _ call.t valid there call.is call.typed told in
        record {
          extends = answer.extends;
          valid = answer.valid;
          there = answer.there;
          typed = rw then (configuration-extended old.store new.store valid answer.extends place _ results (call.goes_on _ answer.typed));
        }

    stays-typed : (ending : Ending) → EndsWell old.store results ending → EndsTyped HostStep HaveHosts results old ending old
    stays-typed ending ends = record { extends = Extends-same old.store; valid = valid; there = there; ends = ends }

    end-typed : {ending : Ending} {last : State H} → IsEnd HostStep bound frame old configuration ending last → EndsTyped HostStep HaveHosts results old ending last
    end-typed (values_left {values} is ending_is last_is) =
        let values_typed : ValuesHaveTypes old.store values (reverse results) = at _ is in
        rw (last_is, ending_is) (stays-typed _ (rw (reverse-reverse results) at (values-reversed old.store values (reverse results) values_typed)))
    end-typed (trapped is enough ending_is last_is) = rw (ending_is, last_is) (record { extends = Extends-same old.store; valid = valid; there = there; ends = tt })
    end-typed {ending} {last} (host_trapped is enough fuel told ending_is) =
        let call = at _ is in
        let answer = well _ _ _ call.address _ _ old.store last.store _ call.t valid there call.is call.typed told in
        rw ending_is (record { extends = answer.extends; valid = answer.valid; there = answer.there; ends = tt })
    end-typed (no_fuel little ending_is last_is) = rw (ending_is, last_is) (stays-typed _ tt)
    end-typed (no_depth is enough deep ending_is last_is) = rw (ending_is, last_is) (stays-typed _ tt)
    end-typed (no_memory asks within enough ending_is last_is) = rw (ending_is, last_is) (stays-typed _ tt)

  run-typed : {old last : State H} {configuration : Configuration} {ending : Ending} (results : List ValType) → StoreIsValid old.store → HaveHosts old.store old.hosts
      → ConfigurationHasType old.store place configuration results → Run HostStep bound frame old configuration ending last → EndsTyped HostStep HaveHosts results old ending last
  run-typed {old} {last} {configuration} {ending} results valid there typed (end is) = end-typed results old configuration valid there typed is
  run-typed {old} {last} {configuration} {ending} results valid there typed (step {between = between} first rest) =
      let more = step-typed results old configuration valid there typed first in
      let ended = run-typed results more.valid more.there more.typed rest in
      record { extends = Extends-through old.store between.store last.store more.extends ended.extends; valid = ended.valid; there = ended.there; ends = ended.ends }

  -- Steps from a typed configuration lead to a typed one.
  steps-typed : {old last : State H} {first reached : Configuration} (results : List ValType) → StoreIsValid old.store → HaveHosts old.store old.hosts
      → ConfigurationHasType old.store place first results
      → Steps HostStep bound frame old first last reached → StepsTyped results old last reached
  steps-typed {old} results valid there typed none = record { extends = Extends-same old.store; valid = valid; there = there; typed = typed }
  steps-typed {old} {last} results valid there typed (one_more {between = between} {second = second} before next_step) =
      let at = steps-typed results valid there typed before in
      let more = step-typed results between second at.valid at.there at.typed next_step in
      record { extends = Extends-through old.store between.store last.store at.extends more.extends; valid = more.valid; there = more.there; typed = more.typed }

module _ {H : Type 0} (HostStep : List H → ℕ → Option ℕ → List Val → Store → Answer → Store → List H → Type 0) (HaveHosts : Store → List H → Type 0)
    (kept : (old new : Store) (hosts : List H) → new.functions ≡ old.functions → HaveHosts old hosts → HaveHosts new hosts)
    (well : HostsAnswerWell HostStep HaveHosts) where
  pub never-goes-wrong : NeverGoesWrong HostStep HaveHosts
  never-goes-wrong bound frame place old last configuration results ending out valid there typed run = run-typed HostStep HaveHosts kept well bound frame place out results valid there typed run

  pub never-stuck : TypedRunsNeverGetStuck HostStep HaveHosts
  never-stuck bound frame place old configuration results out valid there typed at reached steps =
      let then = steps-typed HostStep HaveHosts kept well bound frame place out results valid there typed steps in
      typed-goes-on frame place out at.store reached results then.valid then.typed

-- ---- outside of all frames

pub out : IsOutside no_frame outermost
out = record { instance = refl; frame_locals = refl; locals = refl; labels = refl; results = refl }

module _ {H : Type 0} (HostStep : List H → ℕ → Option ℕ → List Val → Store → Answer → Store → List H → Type 0) (HaveHosts : Store → List H → Type 0)
    (kept : (old new : Store) (hosts : List H) → new.functions ≡ old.functions → HaveHosts old hosts → HaveHosts new hosts)
    (well : HostsAnswerWell HostStep HaveHosts) (bound : ℕ) where
  -- Steps from a typed configuration lead to a typed one.
  pub steps-stay-typed : {old last : State H} {first then : Configuration} → HaveHosts old.store old.hosts → IsTyped old.store first → Steps HostStep bound no_frame old first last then
      → IsTyped last.store then × HaveHosts last.store last.hosts
  steps-stay-typed there is steps =
      let then = steps-typed HostStep HaveHosts kept well bound no_frame outermost out is.results is.valid there is.typed steps in
      (record { valid = then.valid; results = is.results; typed = then.typed }, then.there)
