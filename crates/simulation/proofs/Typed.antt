-- What runs in a frame stays typed.
use Rattle.std.proofs.Common.{◌≡◌, ℕ, ◌+◌, ◌-◌, ◌≤◌, List, [], ◌∷◌, ◌++◌, length, refl, ap, sym, subst, ◌∙◌, arith, length-append, inl, inr}
use Rattle.std.specs.Prelude.{Some, slice_get, unwrap_or}
use Rattle.core_types.specs.declared.outcome.Val.{Val}
use Rattle.core_types.specs.declared.types.ValType.{ValType}
use Rattle.meaning.specs.structure.Bodies.{Body}
use Rattle.meaning.specs.execution.Configurations.{Configuration, Frame, InLabel, Label, Running}
use Rattle.meaning.specs.execution.Instructions.{Goes, Next, next}
use Rattle.meaning.specs.execution.Store.{ModuleInstance, Store, instance_of, no_instance}
use Rattle.meaning.specs.soundness.Values.{ValuesHaveTypes}
use Rattle.soundness.specs.Configurations.{ConfigurationHasType, FrameHasPlace, IsGood}
use Rattle.soundness.specs.Places.{Place, RunsOn}
use Rattle.soundness.specs.Stores.{StoreIsValid}
use Rattle.soundness.proofs.Steps.{stays-good}
use Rattle.simulation.specs.Runs.{Ghost, NextContinues, IsSameFrame, IsTyped, FrameReaches, Runs, StepsIn, config_of, frame_of, none, place_of, then}
use Rattle.simulation.specs.Settling.{IsSettled, LeavesTo, Settles, in_frame, inside_labels, leave, stay}
use Rattle.simulation.specs.Standing.{under, values_under}
use Rattle.simulation.proofs.Settling.{settles}

-- The ghost with another store, and with other locals, values, labels and rest.
abbrev pub over : Ghost → Store → List Val → List Val → List Label → Body → Ghost
over g store locals values labels rest = record {
  code = g.code;
  store = store;
  instance = g.instance;
  types = g.types;
  results = g.results;
  locals = locals;
  values = values;
  labels = labels;
  rest = rest;
}

-- The same with its own store.
abbrev pub on : Ghost → List Val → List Val → List Label → Body → Ghost
on g locals values labels rest = over g g.store locals values labels rest

module _ (g : Ghost) (t : IsTyped g) where
  pub good : IsGood g.store (place_of g) g.results (next g.store (frame_of g) (config_of g))
  good = stays-good g.store (place_of g) (frame_of g) (config_of g) g.results t.valid (refl, t.own) t.typed

  pub is-good : (n : Next) → next g.store (frame_of g) (config_of g) ≡ n → IsGood g.store (place_of g) g.results n
  is-good n e = rw e at good

  good-then : (cost : ℕ) (store' : Store) (frame' : Frame) (c : Configuration) → NextContinues (next g.store (frame_of g) (config_of g)) cost store' frame' c
      → IsGood g.store (place_of g) g.results (Goes cost store' frame' c)
  good-then cost store' frame' c (inl e) = is-good _ e
  good-then cost store' frame' c (inr e) = is-good _ e

  -- A step keeps the types. Instances stay, and so do functions.
  pub typed-then : (cost : ℕ) (store' : Store) (locals values : List Val) (labels : List Label) (rest : Body) → store'.instances ≡ g.store.instances
      → NextContinues (next g.store (frame_of g) (config_of g)) cost store' (record { instance = Some g.instance; locals = locals }) (in_frame values labels rest)
      → IsTyped (over g store' locals values labels rest)
  typed-then cost store' locals values labels rest instances e =
      let (more, valid, own, typed) = good-then cost store' (record { instance = Some g.instance; locals = locals }) (in_frame values labels rest) e in
      let same : instance_of store' (Some g.instance) ≡ instance_of g.store (Some g.instance) = ap (λ (is : List ModuleInstance). unwrap_or (slice_get is g.instance) no_instance) instances in record {
        valid = valid;
        own = own.1;
        typed = typed;
        types = ap (λ (i : ModuleInstance). i.types) same ∙ t.types;
        functions = rw (same, more.functions) t.functions;
      }

-- Labels that are left keep the types, too.
pub config-typed : (store : Store) (place : Place) (frame : Frame) (results : List ValType) (c d : Configuration) → StoreIsValid store → FrameHasPlace store frame place → LeavesTo store frame c d
    → ConfigurationHasType store place c results → ConfigurationHasType store place d results
config-typed store place frame results c d valid own stay typed = typed
config-typed store place frame results c d valid own (leave {d = between} e further) typed =
    let good : IsGood store place results (Goes 0 store frame between) = rw e at (stays-good store place frame c results valid own typed) in
    config-typed store place frame results between d valid own further good.3

pub leaves-steps : (store : Store) (frame : Frame) (c d : Configuration) (fuel : ℕ) → LeavesTo store frame c d → StepsIn store frame c fuel store frame d fuel
leaves-steps store frame c d fuel stay = none
leaves-steps store frame c d fuel (leave {d = between} e further) =
    let same : fuel - 0 ≡ fuel = omega arith in
    then (inl e) (omega arith) (rw same (leaves-steps store frame between d fuel further))

-- ---- within labels

-- A label's arity is the number of values that it carries.
abbrev pub Arities : List Label → List (List ValType) → Type 0
Arities [] [] = Unit {0}
Arities [] (c ∷ cs) = ⊥
Arities (label ∷ labels) [] = ⊥
Arities (label ∷ labels) (c ∷ cs) = (label.arity ≡ length c) × Arities labels cs

abbrev pub with_labels : Place → List (List ValType) → Place
with_labels place carried = record { instance = place.instance; locals = place.locals; labels = carried; results = place.results }

pub labels-typed : (store : Store) (place : Place) (empty : place.labels ≡ []) (labels : List Label) (x : Configuration) (results : List ValType)
    → ConfigurationHasType store place (inside_labels labels x) results
    → (carried : List (List ValType)) × (given : List ValType) × Arities labels carried × ConfigurationHasType store (with_labels place carried) x given
    × ((y : Configuration) → ConfigurationHasType store (with_labels place carried) y given → ConfigurationHasType store place (inside_labels labels y) results)
labels-typed store place empty [] x results typed = (
  [],
  results,
  tt,
  subst (λ (ls : List (List ValType)). ConfigurationHasType store (with_labels place ls) x results) empty typed,
  λ y other. subst (λ (ls : List (List ValType)). ConfigurationHasType store (with_labels place ls) y results) (sym empty) other,
)
labels-typed store place empty (label ∷ labels) x results typed =
    let (carried, given, arities, (stack, inner_given, own, arity, values, inner, onward, again), filled) = labels-typed store place empty labels (InLabel label x) results typed in
    (own ∷ carried, inner_given, (arity, arities), inner, λ y other. filled (InLabel label y) (stack, inner_given, own, arity, values, other, onward, again))

-- The types of the values, the typing of the rest, and the typing of what may replace it within the labels.
pub record Inner (g : Ghost) : Type 0 where
  pub carried : List (List ValType)
  pub given : List ValType
  pub arities : Arities g.labels carried
  pub stack : List ValType
  pub values : ValuesHaveTypes g.store g.values stack
  pub runs : RunsOn g.store (with_labels (place_of g) carried) g.rest stack given
  pub filled : (y : Configuration) → ConfigurationHasType g.store (with_labels (place_of g) carried) y given → ConfigurationHasType g.store (place_of g) (inside_labels g.labels y) g.results

pub inner : (g : Ghost) → IsTyped g → Inner g
inner g t =
    let (carried, given, arities, (stack, values, runs), filled) = labels-typed g.store (place_of g) refl g.labels (Running g.values g.rest) g.results t.typed in
    record { carried = carried; given = given; arities = arities; stack = stack; values = values; runs = runs; filled = filled }

-- ---- settling

pub under-length : (labels : List Label) → length (values_under labels) ≡ under labels
under-length [] = refl
under-length (label ∷ labels) = length-append label.values (values_under labels) ∙ ap (λ (n : ℕ). length label.values + n) (under-length labels)

pub all-length : (values : List Val) (labels : List Label) → length (values ++ values_under labels) ≡ length values + under labels
all-length values labels = length-append values (values_under labels) ∙ ap (λ (n : ℕ). length values + n) (under-length labels)

pub same-frame : (g : Ghost) (store' : Store) (locals values : List Val) (labels : List Label) (rest : Body) → IsSameFrame g (over g store' locals values labels rest)
same-frame g store' locals values labels rest = record { code = refl; instance = refl; types = refl; results = refl }

-- The state in which no label can be left.
pub record Settled (g : Ghost) (cells : List ℕ) (at top : ℕ) : Type 0 where
  pub values : List Val
  pub labels : List Label
  pub rest : Body
  pub settled : IsSettled g.code at values labels rest
  pub runs : Runs (on g g.locals values labels rest) cells at top
  pub leaves : LeavesTo g.store (frame_of g) (config_of g) (in_frame values labels rest)

pub settled : (g : Ghost) (cells : List ℕ) (at top : ℕ) → Runs g cells at top → Settled g cells at top
settled g cells at top r =
    let s : Settles g.store (frame_of g) g.code at g.values g.labels g.rest = settles g.store (frame_of g) g.code at g.labels g.values g.rest r.stands in
    let first = all-length g.values g.labels in
    let second = all-length s.values' s.labels' in
    let same = ap length s.same in record {
      values = s.values';
      labels = s.labels';
      rest = s.rest';
      settled = s.settled;
      runs = record {
        stands = s.stands;
        holds = record {
          held = rw s.same r.holds.held;
          top_is = omega (arith, r.holds.top_is, first, second, same);
          count = r.holds.count;
          room = r.holds.room;
        };
        typed = record {
          valid = r.typed.valid;
          own = r.typed.own;
          typed = config-typed g.store (place_of g) (frame_of g) g.results (config_of g) (in_frame s.values' s.labels' s.rest') r.typed.valid (refl, r.typed.own) s.leaves r.typed.typed;
          types = r.typed.types;
          functions = r.typed.functions;
        };
      };
      leaves = s.leaves;
    }

-- Labels that are left, and then a step.
pub leads-then : (g : Ghost) (store' : Store) (locals values : List Val) (labels : List Label) (rest : Body) (c d : Configuration) (cost fuel left : ℕ) (cells : List ℕ) (at top : ℕ)
    → LeavesTo g.store (frame_of g) (config_of g) c → NextContinues (next g.store (frame_of g) c) cost store' (record { instance = Some g.instance; locals = locals }) d
    → d ≡ in_frame values labels rest
    → cost ≤ fuel → left ≡ fuel - cost → Runs (over g store' locals values labels rest) cells at top → FrameReaches g fuel store' cells at top left
leads-then g store' locals values labels rest c d cost fuel left cells at top leaves e same enough left_is runs = record {
  new = over g store' locals values labels rest;
  same = same-frame g store' locals values labels rest;
  store = refl;
  steps = rw (left_is, ← same) (go (config_of g) leaves);
  runs = runs;
}
  where
    go : (from : Configuration) → LeavesTo g.store (frame_of g) from c → StepsIn g.store (frame_of g) from fuel store' (record { instance = Some g.instance; locals = locals }) d (fuel - cost)
    go from stay = then e enough none
    go from (leave {d = between} f further) = let zero_off : fuel - 0 ≡ fuel = omega arith in then (inl f) (omega arith) (rw zero_off (go between further))
