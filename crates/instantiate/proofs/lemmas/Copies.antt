-- Instructions of a link as steps, by their outcomes.
use Rattle.std.proofs.Common.{◌≡◌, ℕ, ◌-◌, ◌<◌, ◌≤◌, List, [], ◌∷◌, refl, sym, ap, subst, ◌∙◌, arith}
use Rattle.std.specs.Prelude.{Option, Some, None, Result, Ok, Err, slice_get}
use Rattle.core_types.specs.declared.outcome.Exhaustion.TheVariants as exhausted
use Rattle.core_types.specs.declared.outcome.Trap.{Trap as AnyTrap}
use Rattle.meaning.specs.structure.Bodies.{Body, Empty}
use Rattle.meaning.specs.execution.Configurations.{Configuration, Frame, Running, depth}
use Rattle.meaning.specs.execution.Effects.{Lacks}
use Rattle.meaning.specs.execution.Instructions.{Goes, Grows, Next, continue_after, next}
use Rattle.meaning.specs.execution.Runs.{AsksForMemory, IsWithinBound, NoHosts, State, WithTrap, end, goes, grows, no_fuel, no_memory, none, price, trapped}
use Rattle.meaning.specs.execution.Store.{Store, locate}
use Rattle.soundness.proofs.Runs.{waiting-stuck}
use Rattle.simulation.specs.Outcomes.{IsOutcome, Outcome, effect_of, failed, grown, made}
use Rattle.effects.specs.Outcomes.{IsDone, IsTrap, cost_of}
use Rattle.effects.specs.declared.payment.Paid.{Paid}
use Rattle.instantiate.specs.declared.link_end.TaskEnd.{TaskEnd}
use Rattle.exec.specs.declared.outcome.Outcome.TheVariants.{Exhausted, Trap, Values}
use Rattle.instantiate.specs.declared.link_end.TaskEnd.TheVariants.{Ended, Stuck}
use Rattle.instantiate.specs.Tasks.{Ends, IsPaidFor, Passes, RunsTo, StepsOrEnds}
use Rattle.instantiate.proofs.lemmas.Tasks.{at, frame_of, step-over}

-- ---- payment

pub is-paid-for : (o : Outcome) (new : Store) (fuel : ℕ) (paid : Paid) → IsDone o new fuel paid → IsPaidFor o new fuel paid.fuel
is-paid-for (made cost store results) new fuel paid (is, same) = (is.enough, is.left, same)
is-paid-for (grown cost store results) new fuel paid (is, same) = (is.enough, is.left, same)
is-paid-for (failed trap) new fuel paid done = absurd done

-- There is fuel for a trap.
pub trap-is-paid : (o : Outcome) (fuel : ℕ) (trap : AnyTrap) → IsTrap o fuel trap → 1 ≤ fuel
trap-is-paid (made cost store results) fuel trap is = absurd is
trap-is-paid (grown cost store results) fuel trap is = absurd is
trap-is-paid (failed other) fuel trap is = is.1

-- ---- what is named

module _ {T : Type 0} (items : List T) (found : Option ℕ) where
  pub located : (a : ℕ) (x : T) → Some a ≡ found → slice_get items a ≡ Some x → locate items found ≡ Some (a, x)
  located a x is there = rw (← is, there) refl

  pub not-located : (a : ℕ) → Some a ≡ found → slice_get items a ≡ None → locate items found ≡ None
  not-located a is lost = rw (← is, lost) refl

  pub not-named : None ≡ found → locate items found ≡ None
  not-named lost = rw (← lost) refl

-- ---- an instruction

module _ (bound instance : ℕ) (old : Store) (fuel : ℕ) (configuration : Configuration) (rest : Body) where
  abbrev its_frame : Frame
  its_frame = frame_of instance

  -- The instruction has this outcome in the frame.
  abbrev HasNext : Outcome → Type 0
  HasNext o = next old its_frame configuration ≡ continue_after its_frame (effect_of o [] []) rest

  price-is : (o : Outcome) → price (continue_after its_frame (effect_of o [] []) rest) ≡ cost_of o
  price-is (made cost store results) = refl
  price-is (grown cost store results) = refl
  price-is (failed trap) = refl

  module _ (new : Store) (left : ℕ) where
    same-state : new ≡ old → (k : ℕ) → left ≡ k → at new left ≡ at old k
    same-state same k is = rw (same, is) refl

    -- The result of the instruction is a step, or an end.
    pub steps-or-ends : {U : Type 0} (r : Result U TaskEnd) (o : Outcome) → IsOutcome old 0 o → HasNext o → Passes r o old new fuel left
        → StepsOrEnds NoHosts r bound its_frame (at old fuel) configuration (at new left) (Running [] rest)
    steps-or-ends (Ok u) (made cost store []) many is (enough, left_is, same) = goes (is ∙ ap (λ (s : Store). Goes cost s its_frame (Running [] rest)) (sym same)) enough left_is refl
    steps-or-ends (Ok u) (made cost store (v ∷ vs)) (count, stays) is passes = absurd (omega (arith, count))
    steps-or-ends (Ok u) (grown cost store []) many is (enough, left_is, same) = grows (is ∙ ap (λ (s : Store). Grows cost s its_frame (Running [] rest)) (sym same)) enough left_is refl
    steps-or-ends (Ok u) (grown cost store (v ∷ vs)) (count, stays) is passes = absurd (omega (arith, count))
    steps-or-ends (Ok u) (failed trap) many is passes = absurd passes
    steps-or-ends (Err (Ended (Trap trap))) (made cost store results) many is (traps, same, left_is) = absurd traps
    steps-or-ends (Err (Ended (Trap trap))) (grown cost store results) many is (traps, same, left_is) = absurd traps
    steps-or-ends (Err (Ended (Trap trap))) (failed other) many is ((trap_is, enough), same, left_is) = record {
      ends = end (trapped is enough (ap WithTrap trap_is) (same-state same (fuel - 1) left_is));
      no_values = tt;
    }
    steps-or-ends (Err (Ended (Exhausted exhausted.Fuel))) o many is (dear, same, left_is) = record {
      ends = end (no_fuel (subst (λ (n : ℕ). fuel < n) (sym (ap price is ∙ price-is o)) dear) refl (same-state same fuel left_is));
      no_values = tt;
    }
    steps-or-ends (Err (Ended (Exhausted exhausted.Depth))) o many is passes = absurd passes
    steps-or-ends (Err (Ended (Exhausted exhausted.Memory))) (made cost store results) many is (lacks, same, left_is) = absurd lacks
    steps-or-ends (Err (Ended (Exhausted exhausted.Memory))) (grown cost store results) many is (enough, same, left_is) = record {
      ends = end
          (no_memory
          (subst AsksForMemory (sym is) tt)
          (subst (λ (n : Next). IsWithinBound bound (depth configuration) n) (sym is) tt)
          (subst (λ (n : Next). price n ≤ fuel) (sym is) enough)
          refl
          (same-state same fuel left_is));
      no_values = tt;
    }
    steps-or-ends (Err (Ended (Exhausted exhausted.Memory))) (failed trap) many is (lacks, same, left_is) = absurd lacks
    steps-or-ends (Err (Ended (Values values))) o many is passes = absurd passes
    steps-or-ends (Err Stuck) o many is passes = absurd passes

  -- The instruction is stuck if it has no outcome.
  pub gets-stuck : next old its_frame configuration ≡ continue_after its_frame Lacks rest → Ends NoHosts bound its_frame (at old fuel) configuration Stuck (at old fuel)
  gets-stuck is = record { ends = record { at = at old fuel; reached = configuration; steps = none; stuck = waiting-stuck is }; no_values = tt }

-- A step after which nothing is left is a run.
pub steps-run : {U : Type 0} (r : Result U TaskEnd) (bound : ℕ) (frame : Frame) (old new : State ⊥) (configuration : Configuration)
    → StepsOrEnds NoHosts r bound frame old configuration new (Running [] Empty) → RunsTo NoHosts r bound frame old configuration new
steps-run (Ok u) bound frame old new configuration s = ([], step-over bound frame old new configuration [] s)
steps-run (Err o) bound frame old new configuration ends = ends
