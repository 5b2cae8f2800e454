-- Typed configurations (Appendix, Soundness, Configuration Validity and Administrative Instructions). Values are listed from the top, and
-- so are the types of a stack of values. Results have the top last.
use Rattle.std.specs.Prelude.{◌≡◌, ℕ, List, ◌++◌, length, reverse, Some, slice_get}
use Rattle.core_types.specs.declared.outcome.Val.{Val}
use Rattle.core_types.specs.declared.types.FuncType.{FuncType}
use Rattle.core_types.specs.declared.types.ValType.{ValType}
use Rattle.meaning.specs.structure.Bodies.{Body}
use Rattle.meaning.specs.execution.Configurations.{Configuration, Frame, InFrame, InLabel, Invoking, Running, answered, continue_with}
use Rattle.meaning.specs.execution.Instructions.{Next, Goes, Grows, Opens, CallsHost, Traps, Branches, Returns, TailCalls, Over, NotReady, next}
use Rattle.meaning.specs.execution.Store.{FunctionInstance, InHost, Store}
use Rattle.meaning.specs.soundness.Values.{ValuesHaveTypes}
use Rattle.soundness.specs.Places.{Place, RunsOn, inside_frame, inside_label}
use Rattle.soundness.specs.Stores.{Follows, StoreIsValid}

-- With results of these types on these values, the rest leads on.
abbrev pub GoesOnWith : Store → Place → Body → (given stack results : List ValType) → Type 0
GoesOnWith store place rest given stack results =
    RunsOn store place rest (reverse given ++ stack) results

-- The configuration, at this place, leads to these results.
abbrev pub ConfigurationHasType : Store → Place → Configuration → (results : List ValType) → Type 0
ConfigurationHasType store place (Running values rest) results =
    (stack : List ValType) × ValuesHaveTypes store values stack
    × RunsOn store place rest stack results
ConfigurationHasType store place (InLabel label inside) results =
    (stack given carried : List ValType) × (label.arity ≡ length carried)
    × ValuesHaveTypes store label.values stack
    × ConfigurationHasType store (inside_label place carried) inside given
    × GoesOnWith store place label.rest given stack results
    × GoesOnWith store place (continue_with label.continuation label.rest) carried stack results
ConfigurationHasType store place (InFrame activation frame inside) results =
    (stack given locals : List ValType) × (activation.arity ≡ length given)
    × ValuesHaveTypes store activation.values stack × ValuesHaveTypes store frame.locals locals
    × ConfigurationHasType store (inside_frame frame.instance locals given) inside given
    × GoesOnWith store place activation.rest given stack results
ConfigurationHasType store place (Invoking arguments address) results =
    (f : FunctionInstance) × (slice_get store.functions address ≡ Some f)
    × ValuesHaveTypes store arguments (reverse f.ty.params) × (results ≡ f.ty.results)

-- The frame is that of the place.
abbrev pub FrameHasPlace : Store → Frame → Place → Type 0
FrameHasPlace store frame place =
    (frame.instance ≡ place.instance) × ValuesHaveTypes store frame.locals place.locals

-- A call of the host function of a number gets arguments of its type. With any results of its type, the configuration that takes them
-- leads on.
pub record HostCallIsGood (store : Store) (place : Place) (number : ℕ) (arguments : List Val)
    (waiting : Configuration) (results : List ValType) : Type 0 where
  pub t : FuncType
  pub address : ℕ
  pub is : slice_get store.functions address ≡
      Some (record { ty = t; implementation = InHost number })
  pub typed : ValuesHaveTypes store arguments t.params
  pub goes_on : (values : List Val) → ValuesHaveTypes store values t.results
      → ConfigurationHasType store place (answered values waiting) results

-- The values that a branch, a return or a tail call takes are those of the types on top.
abbrev pub HasOnTop : Store → List Val → (types : List ValType) → Type 0
HasOnTop store values types =
    (stack : List ValType) × ValuesHaveTypes store values (reverse types ++ stack)

-- What a configuration with these results must do next. It steps to one that has them, over a store that is valid and extended. It calls
-- a host function, traps, or is over, with the results. It branches or returns with what the label or the frame takes. Or it calls a
-- function of the store in place of the frame, with its arguments, and the function's results are the frame's.
abbrev pub IsGood : Store → Place → (results : List ValType) → Next → Type 0
IsGood old place results (Goes cost store frame configuration) =
    Follows old store × StoreIsValid store × FrameHasPlace store frame place ×
    ConfigurationHasType store place configuration results
IsGood old place results (Grows cost store frame configuration) =
    Follows old store × StoreIsValid store × FrameHasPlace store frame place ×
    ConfigurationHasType store place configuration results
IsGood old place results (Opens cost store configuration) =
    (store ≡ old) × ConfigurationHasType store place configuration results
IsGood old place results (CallsHost cost number lent arguments waiting) =
    HostCallIsGood old place number arguments waiting results
IsGood old place results (Traps cost trap) = Unit {0}
IsGood old place results (Branches label values) =
    (types : List ValType) × (slice_get place.labels label ≡ Some types) × HasOnTop old values types
IsGood old place results (Returns values) =
    (types : List ValType) × (place.results ≡ Some types) × HasOnTop old values types
IsGood old place results (TailCalls lent function values) =
    (address : ℕ) × (slice_get old.functions address ≡ Some function)
    × (place.results ≡ Some function.ty.results) × HasOnTop old values function.ty.params
IsGood old place results (Over values) = ValuesHaveTypes old values (reverse results)
IsGood old place results NotReady = ⊥

-- The next step of a typed configuration is good.
abbrev pub StaysGood : Type 0
StaysGood = (store : Store) (place : Place) (frame : Frame) (configuration : Configuration)
    (results : List ValType)
    → StoreIsValid store → FrameHasPlace store frame place
    → ConfigurationHasType store place configuration results
    → IsGood store place results (next store frame configuration)
