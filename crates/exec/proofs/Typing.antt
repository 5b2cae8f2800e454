-- Calls from outside end well.
use Rattle.std.proofs.Common.{ℕ, List, reverse, refl, subst, sym}
use Rattle.std.specs.Prelude.{Option, slice_get}
use Rattle.core_types.specs.declared.outcome.Val.{Val}
use Rattle.meaning.specs.execution.Configurations.{Invoking, no_frame}
use Rattle.meaning.specs.execution.Runs.{Ending, Run}
use Rattle.meaning.specs.execution.Store.{FunctionInstance, Store}
use Rattle.meaning.specs.soundness.Values.{TakesArguments}
use Rattle.soundness.specs.Embedding.{results_of}
use Rattle.soundness.specs.Places.{outermost}
use Rattle.soundness.specs.Runs.{EndsTyped}
use Rattle.soundness.specs.Stores.{StoreIsValid}
use Rattle.soundness.proofs.Hosts.{ready-still}
use Rattle.soundness.proofs.Runs.{never-goes-wrong, out}
use Rattle.soundness.proofs.Values.{values-reversed}
use Rattle.hostfunc.specs.Boxes.{HaveHosts, HostStep, type_of_host}
use Rattle.hostfunc.specs.declared.host_function.HostFn.{Ghosts}
use Rattle.hostfunc.specs.declared.host_object.HostObject.{HostObject}
use Rattle.hostfunc.proofs.Fitting.{boxes-answer-well}
use Rattle.exec.specs.Endings.{run_state}

module _ {I : Type 0} {F : I → Type 0} (members : (i : I) → Ghosts (F i)) (bound : ℕ) (old new : Store) (hosts hosts' : List (HostObject I F)) (fuel fuel' : ℕ) where
  -- A call of a function with arguments that it takes ends with its results, or without values.
  pub call-ends : (address : ℕ) (args : List Val) (ending : Ending) → StoreIsValid old → HaveHosts old hosts → TakesArguments old address args
      → Run (HostStep members) bound no_frame (run_state old hosts fuel) (Invoking (reverse args) address) ending (run_state new hosts' fuel')
      → EndsTyped (HostStep members) HaveHosts (results_of (slice_get old.functions address)) (run_state old hosts fuel) ending (run_state new hosts' fuel')
  call-ends address args ending valid ready (f, there, typed) run =
      subst (λ (found : Option FunctionInstance). EndsTyped (HostStep members) HaveHosts (results_of found) (run_state old hosts fuel) ending (run_state new hosts' fuel')) (sym there)
      (never-goes-wrong (HostStep members) HaveHosts (ready-still type_of_host) (boxes-answer-well members) bound no_frame outermost
      (run_state old hosts fuel) (run_state new hosts' fuel') (Invoking (reverse args) address) f.ty.results ending out valid ready
      (f, there, values-reversed old args f.ty.params typed, refl) run)
