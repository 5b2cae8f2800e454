-- Bounded runs, which are this project's own: steps within the fuel and the depth bound, in a frame outside of all others, over any host
-- functions.
use Rattle.std.specs.Prelude.{◌≡◌, ℕ, ◌-◌, ◌<◌, ◌≤◌, List, Option, reverse}
use Rattle.core_types.specs.declared.outcome.Val.{Val}
use Rattle.core_types.specs.declared.outcome.Trap.{Trap}
use Rattle.core_types.specs.declared.outcome.Trap.TheVariants.{Host}
use Rattle.meaning.specs.execution.Configurations.{Configuration, Frame, answered, depth}
use Rattle.meaning.specs.execution.Store.{Store}
use Rattle.meaning.specs.execution.Instructions.{Next, Goes, Grows, Opens, CallsHost, Traps, Branches, Returns, TailCalls, Over, NotReady, next}

-- The cost of the next step.
abbrev pub price : Next → ℕ
price (Goes cost store frame configuration) = cost
price (Grows cost store frame configuration) = cost
price (Opens cost store configuration) = cost
price (CallsHost cost number lent arguments configuration) = cost
price (Traps cost trap) = cost
price (Branches label values) = 0
price (Returns values) = 0
price (TailCalls lent function values) = 0
price (Over values) = 0
price NotReady = 0

-- A case of the reduction applies.
abbrev pub IsReady : Next → Type 0
IsReady (Goes cost store frame configuration) = Unit {0}
IsReady (Grows cost store frame configuration) = Unit {0}
IsReady (Opens cost store configuration) = Unit {0}
IsReady (CallsHost cost number lent arguments configuration) = Unit {0}
IsReady (Traps cost trap) = Unit {0}
IsReady (Branches label values) = ⊥
IsReady (Returns values) = ⊥
IsReady (TailCalls lent function values) = ⊥
IsReady (Over values) = ⊥
IsReady NotReady = ⊥

-- The step stays within the depth bound, if this many frames are open.
abbrev pub IsWithinBound : (bound frames : ℕ) → Next → Type 0
IsWithinBound bound frames (Opens cost store configuration) = frames < bound
IsWithinBound bound frames other = Unit {0}

-- The step asks for memory: it opens a frame, as the entry from outside does, replaces a frame, grows a table or a memory, or calls a
-- host function.
abbrev pub AsksForMemory : Next → Type 0
AsksForMemory (Goes cost store frame configuration) = ⊥
AsksForMemory (Grows cost store frame configuration) = Unit {0}
AsksForMemory (Opens cost store configuration) = Unit {0}
AsksForMemory (CallsHost cost number lent arguments configuration) = Unit {0}
AsksForMemory (Traps cost trap) = ⊥
AsksForMemory (Branches label values) = ⊥
AsksForMemory (Returns values) = ⊥
AsksForMemory (TailCalls lent function values) = ⊥
AsksForMemory (Over values) = ⊥
AsksForMemory NotReady = ⊥

-- The state of a run: the store, the host functions, and the fuel left.
pub record State (H : Type 0) : Type 0 where
  pub store : Store
  pub hosts : List H
  pub fuel : ℕ

-- How a host function answers: with results, or with its own trap.
pub data Answer : Type 0 where
  Results : (values : List Val) → Answer
  HostTrap : (code : ℕ) → Answer

-- The five ways in which a run ends.
pub data Ending : Type 0 where
  WithValues : (values : List Val) → Ending
  WithTrap : (trap : Trap) → Ending
  OutOfFuel : Ending
  OutOfDepth : Ending
  OutOfMemory : Ending

-- `HostStep hosts number lent arguments store answer store' hosts'`: the host function of this number is called with these arguments, and
-- borrows the memory at the address `lent`, if there is one. It gives this answer, and leaves this store and these host functions.
module _ {H : Type 0} (HostStep : List H → ℕ → Option ℕ → List Val → Store → Answer → Store
    → List H → Type 0) (bound : ℕ) (outside : Frame) where
  -- One step.
  pub data IsStep (old : State H) (configuration : Configuration) (new : State H)
      (configuration' : Configuration) : Type 0 where
    goes : {cost : ℕ} → next old.store outside configuration ≡
        Goes cost new.store outside configuration'
        → cost ≤ old.fuel → new.fuel ≡ old.fuel - cost → new.hosts ≡ old.hosts
        → IsStep old configuration new configuration'
    grows : {cost : ℕ} → next old.store outside configuration ≡
        Grows cost new.store outside configuration'
        → cost ≤ old.fuel → new.fuel ≡ old.fuel - cost → new.hosts ≡ old.hosts
        → IsStep old configuration new configuration'
    opens : {cost : ℕ} → next old.store outside configuration ≡ Opens cost new.store configuration'
        → cost ≤ old.fuel → new.fuel ≡ old.fuel - cost → new.hosts ≡ old.hosts
        → depth configuration < bound
        → IsStep old configuration new configuration'
    calls : {cost number : ℕ} {lent : Option ℕ} {arguments results : List Val}
        {waiting : Configuration}
        → next old.store outside configuration ≡ CallsHost cost number lent arguments waiting
        → cost ≤ old.fuel → new.fuel ≡ old.fuel - cost
        → HostStep old.hosts number lent arguments old.store (Results results) new.store new.hosts
        → configuration' ≡ answered results waiting → IsStep old configuration new configuration'

  -- The end of a run at this state and configuration, and the state at the end.
  pub data IsEnd (at : State H) (configuration : Configuration) (ending : Ending)
      (last : State H) : Type 0 where
    values_left : {values : List Val} → next at.store outside configuration ≡ Over values
        → ending ≡ WithValues (reverse values) → last ≡ at → IsEnd at configuration ending last
    trapped : {cost : ℕ} {trap : Trap} → next at.store outside configuration ≡ Traps cost trap
        → cost ≤ at.fuel → ending ≡ WithTrap trap → last ≡ record at { fuel = at.fuel - cost }
        → IsEnd at configuration ending last
    host_trapped : {cost number code : ℕ} {lent : Option ℕ} {arguments : List Val}
        {waiting : Configuration}
        → next at.store outside configuration ≡ CallsHost cost number lent arguments waiting
        → cost ≤ at.fuel → last.fuel ≡ at.fuel - cost
        → HostStep at.hosts number lent arguments at.store (HostTrap code) last.store last.hosts
        → ending ≡ WithTrap (Host code) → IsEnd at configuration ending last
    no_fuel : at.fuel < price (next at.store outside configuration) → ending ≡ OutOfFuel → last ≡ at
        → IsEnd at configuration ending last
    no_depth : {cost : ℕ} {store : Store} {configuration' : Configuration}
        → next at.store outside configuration ≡ Opens cost store configuration' → cost ≤ at.fuel
        → bound ≤ depth configuration → ending ≡ OutOfDepth → last ≡ at
        → IsEnd at configuration ending last
    no_memory : AsksForMemory (next at.store outside configuration)
        → IsWithinBound bound (depth configuration) (next at.store outside configuration)
        → price (next at.store outside configuration) ≤ at.fuel → ending ≡ OutOfMemory → last ≡ at
        → IsEnd at configuration ending last

  -- From a state and a configuration to an ending and the state at the end.
  pub data Run : State H → Configuration → Ending → State H → Type 0 where
    end : {at last : State H} {configuration : Configuration} {ending : Ending}
        → IsEnd at configuration ending last → Run at configuration ending last
    step : {old between last : State H} {configuration configuration' : Configuration}
        {ending : Ending}
        → IsStep old configuration between configuration' → Run between configuration' ending last
        → Run old configuration ending last

  -- Steps in a row, or none.
  pub data Steps : State H → Configuration → State H → Configuration → Type 0 where
    none : {at : State H} {configuration : Configuration} → Steps at configuration at configuration
    one_more : {old between new : State H} {first second third : Configuration}
        → Steps old first between second → IsStep between second new third
        → Steps old first new third

-- Without host functions none answers.
abbrev pub NoHosts : List ⊥ → ℕ → Option ℕ → List Val → Store → Answer → Store → List ⊥ → Type 0
NoHosts hosts number lent arguments store answer store' hosts' = ⊥
