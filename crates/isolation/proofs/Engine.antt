-- The laws for the engine's own host functions.
use Rattle.std.proofs.Common.{◌≡◌, ℕ, List, ap, ap₂, subst, sym, ◌∙◌}
use Rattle.std.specs.Global.{Global}
use Rattle.std.specs.declared.dyn_box.DynBox.{DynBox}
use Rattle.core_types.specs.declared.module.Module.{Module}
use Rattle.core_types.specs.declared.types.FuncType.{FuncType}
use Rattle.meaning.specs.binary.Modules.{SpellsModule}
use Rattle.meaning.specs.structure.Bodies.{Body, body_of, writing}
use Rattle.meaning.specs.execution.Hosts.{IsHostStep}
use Rattle.meaning.specs.execution.Runs.{Answer}
use Rattle.core_types.specs.declared.outcome.Val.{Val}
use Rattle.soundness.proofs.Narrowing.{run-of-own}
use Rattle.hostfunc.specs.Boxes.{HostAnswers, HostStep, OwnAnswers, type_of_host}
use Rattle.hostfunc.specs.declared.host_function.HostFn.{Ghosts}
use Rattle.hostfunc.specs.declared.host_object.HostObject.{HostObject}
use Rattle.isolation.specs.Determinism.{HostsAreFunctions}
use Rattle.isolation.specs.Engine.{CallsOfTheEngine, IsFunction, KeepsNothing, KindIsFunction, RepliesOfTheEngine}
use Rattle.isolation.specs.Regions.{marked}
use Rattle.isolation.proofs.Apart.{links-are-apart, registered-ones, strangers-are-apart, strangers-change-nothing}
use Rattle.isolation.proofs.Bounds.{lists-deeper, lists-more}
use Rattle.isolation.proofs.Changes.{command-change, setup-kept}
use Rattle.isolation.proofs.Commands.{commands-keep}
use Rattle.isolation.proofs.Others.{others-change-nothing, out-of-reach-changes-nothing}
use Rattle.isolation.proofs.Determinism.{lists-agree, steps-agree}
use Rattle.isolation.proofs.Early.{lists-end-early}
use Rattle.isolation.proofs.Fuel.{calls-deeper, calls-more, runs-end-early}
use Rattle.isolation.proofs.Links.{links-cannot-tell, links-keep-to}
use Rattle.isolation.proofs.Starts.{links-without-start}
use Rattle.isolation.proofs.Still.{list-still}
use Rattle.isolation.proofs.Runs.{runs-cannot-tell, runs-keep-to}

module _ {I : Type 0} {F : I → Type 0} (members : (i : I) → Ghosts (F i)) where
  -- The relation of an object alone, if it is a function.
  abbrev Functional : HostObject I F → List Val → List ℕ → Answer → List ℕ → HostObject I F → Type 0
  Functional h arguments bytes answer bytes' h' = KindIsFunction members h.object.vtable × OwnAnswers members h arguments bytes answer bytes' h'

  same-host : (x y : HostObject I F) → x.ty ≡ y.ty → x.object ≡ y.object → x ≡ y
  same-host x y types objects = ap₂ (λ (t : FuncType) (o : DynBox I Global F). record { ty = t; object = o }) types objects

  functional : HostsAreFunctions type_of_host Functional
  functional h arguments bytes a b bytes_a bytes_b x y x_type y_type (function, (v, x_is, first)) (function', (w, y_is, second)) =
      let (same, same_bytes, objects) = function h.object.value arguments bytes a b bytes_a bytes_b v w first second in
      (same, same_bytes, same-host x y (x_type ∙ sym y_type) (x_is ∙ ap (λ (u : F h.object.vtable). record h.object { value = u }) objects ∙ sym y_is))

  narrow-function : (h h' : HostObject I F) (arguments : List Val) (bytes bytes' : List ℕ) (answer : Answer) → IsFunction members h
      → HostAnswers members h arguments bytes answer bytes' h' → h'.ty ≡ h.ty
      → Functional h arguments bytes answer bytes' h' × IsFunction members h'
  narrow-function h h' arguments bytes bytes' answer (keeps, function) told same =
      let own = told.answers keeps in
      let same_kind : h.object.vtable ≡ h'.object.vtable = ap (λ (o : DynBox I Global F). o.vtable) (sym own.1) in
      ((function, own), (told.same_declared ∙ keeps ∙ sym same, subst (KindIsFunction members) same_kind function))

  pub replies-of-the-engine : ((bytes : List ℕ) (m n : Module) → SpellsModule bytes m → SpellsModule bytes n → m ≡ n) → RepliesOfTheEngine members
  replies-of-the-engine spelt old a b commands replies_a replies_b kept first second had_a had_b =
      lists-agree (IsHostStep type_of_host Functional) (steps-agree type_of_host Functional functional) spelt old a b commands replies_a replies_b
      (run-of-own type_of_host (HostAnswers members) Functional (IsFunction members) narrow-function kept first).0
      (run-of-own type_of_host (HostAnswers members) Functional (IsFunction members) narrow-function kept second).0 had_a had_b

  still : (h h' : HostObject I F) (arguments : List Val) (bytes bytes' : List ℕ) (answer : Answer) → KeepsNothing members h
      → HostAnswers members h arguments bytes answer bytes' h' → h'.ty ≡ h.ty → h' ≡ h
  still h h' arguments bytes bytes' answer (keeps, nothing) told same =
      let (w, is, answers) = told.answers keeps in
      same-host h' h same (is ∙ ap (λ (u : F h.object.vtable). record h.object { value = u }) (nothing h.object.value w arguments bytes bytes' answer answers))

  pub calls-of-the-engine : ((b : Body) → body_of (writing b) ≡ b) → CallsOfTheEngine members
  calls-of-the-engine read = record {
    need_no_more_fuel = calls-more (HostStep members);
    need_no_deeper = calls-deeper (HostStep members);
    lists_need_no_more_fuel = lists-more (HostStep members);
    lists_need_no_deeper = lists-deeper (HostStep members) (λ a b command reply applies. setup-kept (HostStep members) (command-change (HostStep members) a b reply command applies));
    lists_end_early = lists-end-early (HostStep members);
    end_early = runs-end-early (HostStep members);
    runs_keep_to = λ marks. runs-keep-to type_of_host (HostAnswers members) (marked marks);
    runs_cannot_tell = λ marks. runs-cannot-tell type_of_host (HostAnswers members) (marked marks);
    links_keep_to = λ marks. links-keep-to type_of_host (HostAnswers members) (marked marks);
    links_cannot_tell = λ marks. links-cannot-tell type_of_host (HostAnswers members) (marked marks);
    keep_to_their_reach = commands-keep type_of_host (HostAnswers members);
    others_change_nothing = others-change-nothing type_of_host (HostAnswers members);
    out_of_reach_changes_nothing = out-of-reach-changes-nothing type_of_host (HostAnswers members) read;
    links_are_apart = links-are-apart type_of_host (HostAnswers members) read;
    strangers_are_apart = strangers-are-apart type_of_host (HostAnswers members) read;
    registered_ones_are_shared = registered-ones type_of_host (HostAnswers members);
    strangers_change_nothing = strangers-change-nothing type_of_host (HostAnswers members) read;
    hosts_without_start = links-without-start (HostStep members);
    hosts_stay = λ old last commands replies kept run. list-still type_of_host (HostAnswers members) (KeepsNothing members) still kept run;
  }
