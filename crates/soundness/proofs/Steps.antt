-- The next step of a typed configuration is good: labels, frames and calls from outside.
use Rattle.std.proofs.Common.{◌≡◌, ℕ, zero, suc, ◌≤◌, List, [], ◌++◌, length, take, reverse, Option, Some, None, refl, subst, sym, arith}
use Rattle.std.proofs.lemmas.List.{append-nil, length-append, length-reverse}
use Rattle.core_types.specs.declared.outcome.Val.{Val}
use Rattle.core_types.specs.declared.types.ValType.{ValType}
use Rattle.meaning.specs.structure.Bodies.{Empty}
use Rattle.meaning.specs.execution.Configurations.{Activation, Configuration, Frame, InFrame, InLabel, Invoking, Label, Running, answered, continue_with}
use Rattle.meaning.specs.execution.Costs.{instruction_cost}
use Rattle.meaning.specs.execution.Instructions.{Next, Goes, Grows, Opens, CallsHost, Traps, Branches, Returns, TailCalls, Over, NotReady, branch_to_label}
use Rattle.meaning.specs.execution.Instructions.{call_function, in_place, next, step_in_frame, step_in_label}
use Rattle.meaning.specs.execution.Store.{Store}
use Rattle.meaning.specs.soundness.Values.{ValuesHaveTypes}
use Rattle.meaning.proofs.lemmas.Layers.{if-at-most}
use Rattle.soundness.specs.Configurations.{ConfigurationHasType, FrameHasPlace, IsGood, StaysGood}
use Rattle.soundness.specs.Places.{Place, RunsOn, inside_frame, inside_label}
use Rattle.soundness.specs.Stores.{Extends, StoreIsValid}
use Rattle.soundness.proofs.Calls.{empty-runs, function-called}
use Rattle.soundness.proofs.Effects.{Extends-same, Follows-same}
use Rattle.soundness.proofs.Extension.{RunsOn-extended, functions-more}
use Rattle.soundness.proofs.Sequences.{sequences}
use Rattle.soundness.proofs.Values.{values-extended, values-joined, values-length, values-parts}

-- The values of the types on top, as a branch, a return or a tail call keeps them.
module _ (store : Store) (kept : List Val) (types under : List ValType) (typed : ValuesHaveTypes store kept (reverse types ++ under)) where
  kept-typed : ValuesHaveTypes store (take (length types) kept) (reverse types)
  kept-typed = (rw (length-reverse types) at (values-parts store kept (reverse types) under typed)).0

  kept-enough : length types ≤ length kept
  kept-enough = omega (arith, values-length store kept (reverse types ++ under) typed, length-append (reverse types) under, length-reverse types)

module _ (store : Store) (valid : StoreIsValid store) (place : Place) (frame : Frame) (own : FrameHasPlace store frame place) (results : List ValType) where
  -- ---- labels

  module _ (label : Label) (stack given carried : List ValType) (arity : label.arity ≡ length carried) (typed : ValuesHaveTypes store label.values stack)
      (onward : RunsOn store place label.rest (reverse given ++ stack) results)
      (again : RunsOn store place (continue_with label.continuation label.rest) (reverse carried ++ stack) results) where
    around : (new : Store) → Extends store new → (inside : Configuration) → ConfigurationHasType new (inside_label place carried) inside given
        → ConfigurationHasType new place (InLabel label inside) results
    around new more inside inner = (
      stack,
      given,
      carried,
      arity,
      values-extended store new (functions-more store new valid more) label.values stack typed,
      inner,
      RunsOn-extended store new valid more place label.rest (reverse given ++ stack) results onward,
      RunsOn-extended store new valid more place (continue_with label.continuation label.rest) (reverse carried ++ stack) results again,
    )

    branched : (kept : List Val) (under : List ValType) → ValuesHaveTypes store kept (reverse carried ++ under) → IsGood store place results (branch_to_label store frame label kept)
    branched kept under kept_values =
        rw (
          arity,
          if-at-most (length carried) (length kept) (Goes instruction_cost store frame (Running (take (length carried) kept ++ label.values) (continue_with label.continuation label.rest))) NotReady
              (kept-enough store kept carried under kept_values),
        ) (
          Follows-same store,
          valid,
          own,
          (reverse carried ++ stack, values-joined store (take (length carried) kept) label.values (reverse carried) stack (kept-typed store kept carried under kept_values) typed, again),
        )

    labelled : (inner : Next) → IsGood store (inside_label place carried) given inner → IsGood store place results (step_in_label store frame label inner)
    labelled (Goes cost new frame' inside) (more, new_valid, own', inner) = (more, new_valid, own', around new more.extends inside inner)
    labelled (Grows cost new frame' inside) (more, new_valid, own', inner) = (more, new_valid, own', around new more.extends inside inner)
    labelled (Opens cost new inside) (same, inner) = (same, around new (rw same (Extends-same store)) inside inner)
    labelled (CallsHost cost number lent arguments inside) good = record {
      t = good.t;
      address = good.address;
      is = good.is;
      typed = good.typed;
      goes_on = λ values values_typed. around store (Extends-same store) (answered values inside) (good.goes_on values values_typed);
    }
    labelled (Traps cost trap) good = tt
    labelled (Branches zero kept) (types, is, (under, kept_values)) =
        let same : carried ≡ types = cc in
        branched kept under (subst (λ (z : List ValType). ValuesHaveTypes store kept (reverse z ++ under)) (sym same) kept_values)
    labelled (Branches (suc further) kept) good = good
    labelled (Returns kept) good = good
    labelled (TailCalls lent f kept) good = good
    labelled (Over values) values_typed =
        (Follows-same store, valid, own, (reverse given ++ stack, values-joined store values label.values (reverse given) stack values_typed typed, onward))
    labelled NotReady good = absurd good

  -- ---- frames

  -- If a call is good, so is one in place of a frame.
  placed : (n : Next) → IsGood store place results n → IsGood store place results (in_place frame n)
  placed (Opens cost new inside) (same, inner) = (rw same (Follows-same store), rw same valid, rw same own, inner)
  placed other good = good

  module _ (activation : Activation) (inner_frame : Frame) (stack given locals : List ValType) (arity : activation.arity ≡ length given) (typed : ValuesHaveTypes store activation.values stack)
      (onward : RunsOn store place activation.rest (reverse given ++ stack) results) where
    outside : (new : Store) → Extends store new → FrameHasPlace new frame place
    outside new more = (own.0, values-extended store new (functions-more store new valid more) frame.locals place.locals own.1)

    framed : (new : Store) → Extends store new → (frame' : Frame) → FrameHasPlace new frame' (inside_frame inner_frame.instance locals given) → (inside : Configuration)
        → ConfigurationHasType new (inside_frame inner_frame.instance locals given) inside given → ConfigurationHasType new place (InFrame activation frame' inside) results
    framed new more frame' own' inside inner = (
      stack,
      given,
      locals,
      arity,
      values-extended store new (functions-more store new valid more) activation.values stack typed,
      own'.1,
      subst (λ (i : Option ℕ). ConfigurationHasType new (inside_frame i locals given) inside given) (sym own'.0) inner,
      RunsOn-extended store new valid more place activation.rest (reverse given ++ stack) results onward,
    )

    in-frame : (own_locals : ValuesHaveTypes store inner_frame.locals locals) (inner : Next) → IsGood store (inside_frame inner_frame.instance locals given) given inner
        → IsGood store place results (step_in_frame store frame activation inner_frame inner)
    in-frame own_locals (Goes cost new frame' inside) (more, new_valid, own', inner) = (more, new_valid, outside new more.extends, framed new more.extends frame' own' inside inner)
    in-frame own_locals (Grows cost new frame' inside) (more, new_valid, own', inner) = (more, new_valid, outside new more.extends, framed new more.extends frame' own' inside inner)
    in-frame own_locals (Opens cost new inside) (same, inner) =
        let more : Extends store new = rw same (Extends-same store) in
        (same, framed new more inner_frame (refl, values-extended store new (functions-more store new valid more) inner_frame.locals locals own_locals) inside inner)
    in-frame own_locals (CallsHost cost number lent arguments inside) good = record {
      t = good.t;
      address = good.address;
      is = good.is;
      typed = good.typed;
      goes_on = λ values values_typed. framed store (Extends-same store) inner_frame (refl, own_locals) (answered values inside) (good.goes_on values values_typed);
    }
    in-frame own_locals (Traps cost trap) good = tt
    in-frame own_locals (Branches label kept) (types, is, on_top) = absurd cc
    in-frame own_locals (Returns kept) (types, is, (under, kept_values)) =
        let same : given ≡ types = cc in
        let values_typed = subst (λ (z : List ValType). ValuesHaveTypes store kept (reverse z ++ under)) (sym same) kept_values in
        rw (
          arity,
          if-at-most (length given) (length kept) (Goes instruction_cost store frame (Running (take (length given) kept ++ activation.values) activation.rest)) NotReady
              (kept-enough store kept given under values_typed),
        ) (
          Follows-same store,
          valid,
          own,
          (reverse given ++ stack, values-joined store (take (length given) kept) activation.values (reverse given) stack (kept-typed store kept given under values_typed) typed, onward),
        )
    in-frame own_locals (TailCalls lent f kept) (address, is, named, (under, kept_values)) =
        let same : given ≡ f.ty.results = cc in
        let arguments = take (length f.ty.params) kept ++ activation.values in
        let arguments_typed : ValuesHaveTypes store arguments (reverse f.ty.params ++ stack) =
        values-joined store (take (length f.ty.params) kept) activation.values (reverse f.ty.params) stack (kept-typed store kept f.ty.params under kept_values) typed in
        rw (if-at-most (length f.ty.params) (length kept)
        (in_place frame (call_function instruction_cost store lent (Some f) arguments activation.rest)) NotReady
        (kept-enough store kept f.ty.params under kept_values))
        (placed (call_function instruction_cost store lent (Some f) arguments activation.rest)
        (function-called store valid place f.ty arguments stack arguments_typed activation.rest results
        (subst (λ (z : List ValType). RunsOn store place activation.rest (reverse z ++ stack) results) same onward) instruction_cost lent address
        f refl is))
    in-frame own_locals (Over values) values_typed =
        (Follows-same store, valid, own, (reverse given ++ stack, values-joined store values activation.values (reverse given) stack values_typed typed, onward))
    in-frame own_locals NotReady good = absurd good

-- ---- all of them

pub stays-good : StaysGood
stays-good store place frame (Running values rest) results valid own (stack, typed, runs) = sequences store valid place frame own results rest values stack typed runs
stays-good store place frame (InLabel label inside) results valid own (stack, given, carried, arity, typed, inner, onward, again) =
    labelled store valid place frame own results label stack given carried arity typed onward again (next store frame inside)
    (stays-good store (inside_label place carried) frame inside given valid own inner)
stays-good store place frame (InFrame activation own_frame inside) results valid own (stack, given, locals, arity, typed, own_locals, inner, onward) =
    in-frame store valid place frame own results activation own_frame stack given locals arity typed onward own_locals (next store own_frame inside)
    (stays-good store (inside_frame own_frame.instance locals given) own_frame inside given valid (refl, own_locals) inner)
stays-good store place frame (Invoking arguments address) results valid own (f, is, typed, same) =
    let on_top : ValuesHaveTypes store arguments (reverse f.ty.params ++ []) = rw (append-nil (reverse f.ty.params)) typed in
    let runs : RunsOn store place Empty (reverse f.ty.results ++ []) results = subst
    (λ (z : List ValType). RunsOn store place Empty (reverse f.ty.results ++ []) z) (sym same) (empty-runs store place f.ty.results) in
    rw is (function-called store valid place f.ty arguments [] on_top Empty results runs 0 None address f refl is)
