-- What a run cannot reach it can neither change nor read.
use Rattle.std.specs.Prelude.{◌≡◌, ℕ, List, ◌<◌, length, None, Option}
use Rattle.std.specs.List.{All}
use Rattle.core_types.specs.declared.module.Module.{Module}
use Rattle.core_types.specs.declared.outcome.Extern.{Extern}
use Rattle.core_types.specs.declared.outcome.Val.{Val}
use Rattle.core_types.specs.declared.types.FuncType.{FuncType}
use Rattle.meaning.specs.execution.Configurations.{Configuration, Frame}
use Rattle.meaning.specs.execution.Hosts.{IsHostStep}
use Rattle.meaning.specs.execution.Modules.{Instantiation}
use Rattle.meaning.specs.execution.Runs.{Answer, Ending, WithValues, WithTrap, OutOfFuel, OutOfDepth, OutOfMemory, Run, State, Steps}
use Rattle.meaning.specs.execution.Store.{Store}
use Rattle.soundness.specs.Hosts.{GivesNoFuncref}
use Rattle.isolation.specs.Hosts.{AnswersBy, Behaviour, HostStepBy}
use Rattle.isolation.specs.Regions.{AgreeWithin, AllocatesNothing, ConfigurationIsWithin, ExternsAreWithin, FrameIsWithin, HaveSameCounts, IsClosed}
use Rattle.isolation.specs.Regions.{IsSameWithin, StaysOutside, KeepsCode, LeavesOutside, Marks, Region, ValuesAreWithin, marked, with_new}

-- The values of an ending refer to no function outside of the region.
abbrev pub EndingIsWithin : Region → Ending → Type 0
EndingIsWithin region (WithValues values) = ValuesAreWithin region values
EndingIsWithin region (WithTrap trap) = Unit {0}
EndingIsWithin region OutOfFuel = Unit {0}
EndingIsWithin region OutOfDepth = Unit {0}
EndingIsWithin region OutOfMemory = Unit {0}

module _ {H : Type 0} (host_type : H → FuncType) where
  -- What runs is within a closed region of the store, and no host function returns references to functions.
  pub record IsConfined (region : Region) (at : State H) (outside : Frame)
      (configuration : Configuration) : Type 0 where
    pub closed : IsClosed region at.store
    pub no_funcrefs : All (GivesNoFuncref host_type) at.hosts
    pub frame : FrameIsWithin region outside
    pub within : ConfigurationIsWithin region configuration

  -- What a run within a region leaves.
  pub record KeepsTo (region : Region) (old last : State H) : Type 0 where
    pub closed : IsClosed region last.store
    pub no_funcrefs : All (GivesNoFuncref host_type) last.hosts
    pub outside : LeavesOutside region old.store last.store
    pub nothing_new : AllocatesNothing old.store last.store
    pub hosts : StaysOutside region region.hosts old.hosts last.hosts

-- The states have the same fuel, and their stores and host functions agree within the region.
pub record LookAlike {H : Type 0} (region : Region) (a b : State H) : Type 0 where
  pub stores : AgreeWithin region a.store b.store
  pub hosts : IsSameWithin region region.hosts a.hosts b.hosts
  pub fuel : b.fuel ≡ a.fuel

module _ {H : Type 0} (host_type : H → FuncType)
    (Answers : H → List Val → List ℕ → Answer → List ℕ → H → Type 0) where
  -- A run within a closed region changes nothing outside of it, and leaves it closed.
  abbrev pub RunsKeepTo : Region → Type 0
  RunsKeepTo region = (bound : ℕ) (outside : Frame) (old last : State H)
      (configuration : Configuration) (ending : Ending)
      → IsConfined host_type region old outside configuration
      → Run (IsHostStep host_type Answers) bound outside old configuration ending last
      → KeepsTo host_type region old last × EndingIsWithin region ending

  -- So does each of its steps.
  abbrev pub StepsKeepTo : Region → Type 0
  StepsKeepTo region = (bound : ℕ) (outside : Frame) (old at : State H)
      (configuration reached : Configuration)
      → IsConfined host_type region old outside configuration
      → Steps (IsHostStep host_type Answers) bound outside old configuration at reached
      → KeepsTo host_type region old at × ConfigurationIsWithin region reached

  -- A run within a closed region cannot tell what is outside of it. From a state that looks the same within the region, there is a run
  -- with the same ending to a state that looks the same.
  abbrev pub RunsCannotTell : Region → Type 0
  RunsCannotTell region = (bound : ℕ) (outside : Frame) (a b last : State H)
      (configuration : Configuration) (ending : Ending)
      → IsConfined host_type region a outside configuration → LookAlike region a b
      → Run (IsHostStep host_type Answers) bound outside a configuration ending last
      → (last' : State H)
      × Run (IsHostStep host_type Answers) bound outside b configuration ending last'
      × LookAlike region last last'

  -- Nor can its steps, which are the same.
  abbrev pub StepsCannotTell : Region → Type 0
  StepsCannotTell region = (bound : ℕ) (outside : Frame) (a b at : State H)
      (configuration reached : Configuration)
      → IsConfined host_type region a outside configuration → LookAlike region a b
      → Steps (IsHostStep host_type Answers) bound outside a configuration at reached
      → (at' : State H)
      × Steps (IsHostStep host_type Answers) bound outside b configuration at' reached
      × LookAlike region at at'

module _ {H : Type 0} (host_type : H → FuncType)
    (Answers : H → List Val → List ℕ → Answer → List ℕ → H → Type 0) where
  -- The result of a link whose imports are in the region. The region with what is new is closed, what was there and is not in the region
  -- is as it was, and there are more instances.
  pub record LinkKeepsTo (region : Region) (old new : State H) : Type 0 where
    pub closed : IsClosed (with_new region old.store) new.store
    pub no_funcrefs : All (GivesNoFuncref host_type) new.hosts
    pub outside : LeavesOutside (with_new region old.store) old.store new.store
    pub code : KeepsCode old.store new.store
    pub one_more : length old.store.instances < length new.store.instances
    pub hosts : StaysOutside region region.hosts old.hosts new.hosts

  abbrev pub LinksKeepTo : Region → Type 0
  LinksKeepTo region = (bound : ℕ) (m : Module) (given : List Extern)
      (old new : State H) (ending : Ending)
      → IsClosed region old.store → All (GivesNoFuncref host_type) old.hosts
      → ExternsAreWithin region given
      → Instantiation (IsHostStep host_type Answers) bound m given old ending new
      → LinkKeepsTo region old new

  -- A link cannot tell what is outside of the region, if the stores have the same numbers of objects. Otherwise it allocates at
  -- other addresses.
  abbrev pub LinksCannotTell : Region → Type 0
  LinksCannotTell region = (bound : ℕ) (m : Module) (given : List Extern)
      (a b last : State H) (ending : Ending)
      → IsClosed region a.store → All (GivesNoFuncref host_type) a.hosts
      → ExternsAreWithin region given → LookAlike region a b → HaveSameCounts a.store b.store
      → Instantiation (IsHostStep host_type Answers) bound m given a ending last
      → (last' : State H)
      × Instantiation (IsHostStep host_type Answers) bound m given b ending last'
      × LookAlike (with_new region a.store) last last'

-- A link of a module without a start function calls no host function.
abbrev pub LinksWithoutStart : {H : Type 0} → (List H → ℕ → Option ℕ → List Val → Store → Answer
    → Store → List H → Type 0) → Type 0
LinksWithoutStart {H} HostStep = (bound : ℕ) (m : Module) (given : List Extern)
    (old new : State H) (ending : Ending)
    → m.start ≡ None → Instantiation HostStep bound m given old ending new
    → new.hosts ≡ old.hosts

-- For all host functions, what a run or a link cannot reach it does not change.
pub record WhatIsOutsideStays (H : Type 0) : Type 0 where
  pub runs : (hosts : Behaviour H) (marks : Marks)
      → RunsKeepTo hosts.type (AnswersBy hosts) (marked marks)
  pub steps : (hosts : Behaviour H) (marks : Marks)
      → StepsKeepTo hosts.type (AnswersBy hosts) (marked marks)
  pub links : (hosts : Behaviour H) (marks : Marks)
      → LinksKeepTo hosts.type (AnswersBy hosts) (marked marks)
  pub hosts_without_start : (hosts : Behaviour H) → LinksWithoutStart (HostStepBy hosts)

-- And what it cannot reach it does not read.
pub record WhatIsOutsideIsNotRead (H : Type 0) : Type 0 where
  pub runs : (hosts : Behaviour H) (marks : Marks)
      → RunsCannotTell hosts.type (AnswersBy hosts) (marked marks)
  pub steps : (hosts : Behaviour H) (marks : Marks)
      → StepsCannotTell hosts.type (AnswersBy hosts) (marked marks)
  pub links : (hosts : Behaviour H) (marks : Marks)
      → LinksCannotTell hosts.type (AnswersBy hosts) (marked marks)
