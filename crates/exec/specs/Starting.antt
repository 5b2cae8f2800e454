-- The start of calls from outside.
use Rattle.std.specs.Prelude.{◌≡◌, ℕ, ◌≤◌, List, reverse, Some, slice_get}
use Rattle.core_types.specs.declared.outcome.Val.{Val}
use Rattle.meaning.specs.execution.Configurations.{Invoking, no_frame}
use Rattle.meaning.specs.execution.Runs.{NoHosts, Steps}
use Rattle.meaning.specs.soundness.Values.{TakesArguments}
use Rattle.soundness.specs.Stores.{StoreIsValid}
use Rattle.store.specs.Contents.{Contents, HasContextTypes, HasDeclaredBody, HasFlatCode, callee_function, functions_in, store_with}
use Rattle.store.specs.State.{StateContents}
use Rattle.store.specs.declared.instances.Callee.TheVariants.{InModule}
use Rattle.store.specs.declared.instances.ModuleFunction.{ModuleFunction}
use Rattle.exec.specs.Resting.{Rests, at_rest}
use Rattle.interpreter.specs.Whole.{Whole, state, whole}
use Rattle.exec.specs.declared.call.Call.{Call}

-- The address of a function in a store.
pub record FunctionAddress : Type 0 where
  pub code : Contents
  pub state : StateContents
  pub address : ℕ

abbrev pub address_in : Contents → StateContents → (address : ℕ) → FunctionAddress
address_in code state address = record { code = code; state = state; address = address }

-- In a valid store, a function of a module was found at the address, and it takes the arguments.
pub record Takes (a : FunctionAddress) (f : ModuleFunction) (arguments : List Val) : Type 0 where
  pub valid : StoreIsValid (store_with a.code a.state)
  pub found : slice_get (functions_in a.code) a.address ≡ Some (callee_function (InModule f))
  pub flat : HasFlatCode a.code (InModule f)
  pub declared : HasDeclaredBody a.code.instances (InModule f)
  pub types : HasContextTypes a.code (InModule f)
  pub accepted : TakesArguments (store_with a.code a.state) a.address arguments

-- One step leads from the call to where it rests, in the same store and with the same fuel.
pub record Begins (bound : ℕ) (a : FunctionAddress) (f : ModuleFunction) (arguments : List Val)
    (fuel : ℕ) (call : Call) : Type 0 where
  pub new : Whole
  pub results : new.results ≡ f.ty.now.results
  pub left : call.position.fuel ≡ fuel
  pub steps : Steps NoHosts bound no_frame (state (store_with a.code a.state) fuel)
      (Invoking (reverse arguments) a.address) (state (store_with a.code a.state) fuel)
      (whole new)
  pub rests : Rests bound (at_rest a.code a.state call) new

abbrev pub BeginsSo : FunctionAddress → ModuleFunction → List Val → (fuel : ℕ) → Call → Type 0
BeginsSo a f arguments fuel call =
    (bound : ℕ) → 1 ≤ bound → Begins bound a f arguments fuel call
