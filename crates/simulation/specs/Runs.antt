-- The machine in a frame, and the configuration that runs there.
use Rattle.std.specs.Prelude.{◌≡◌, ◌⊎◌, ℕ, ◌+◌, ◌-◌, ◌<◌, ◌≤◌, List, ◌∷◌, ◌++◌, length, map, take, drop, Some}
use Rattle.core_types.specs.declared.outcome.Trap.{Trap}
use Rattle.core_types.specs.declared.outcome.Val.{Val}
use Rattle.core_types.specs.declared.types.ValType.{ValType}
use Rattle.meaning.specs.structure.Bodies.{Body}
use Rattle.meaning.specs.execution.Configurations.{Configuration, Frame, Label}
use Rattle.meaning.specs.execution.Instructions.{Goes, Grows, Next, Traps, next}
use Rattle.meaning.specs.execution.Runs.{price}
use Rattle.meaning.specs.execution.Store.{Store}
use Rattle.meaning.specs.soundness.Values.{ValuesHaveTypes}
use Rattle.soundness.specs.Configurations.{ConfigurationHasType}
use Rattle.soundness.specs.Places.{Place, context_at, inside_frame}
use Rattle.soundness.specs.Stores.{StoreIsValid}
use Rattle.sidetable.specs.Flat.{FlatOp}
use Rattle.cells.specs.Cells.{cell_of}
use Rattle.simulation.specs.Piles.{cells_of}
use Rattle.simulation.specs.Settling.{in_frame}
use Rattle.simulation.specs.Standing.{FrameCode, StandsIn, under, values_under}

-- What a machine does not keep: the store, the frame, its types, and what runs in it.
pub record Ghost : Type 0 where
  pub code : FrameCode
  pub store : Store
  pub instance : ℕ
  pub types : List ValType
  pub results : List ValType
  pub locals : List Val
  pub values : List Val
  pub labels : List Label
  pub rest : Body

abbrev pub frame_of : Ghost → Frame
frame_of g = record { instance = Some g.instance; locals = g.locals }

abbrev pub place_of : Ghost → Place
place_of g = inside_frame (Some g.instance) g.types g.results

abbrev pub config_of : Ghost → Configuration
config_of g = in_frame g.values g.labels g.rest

-- What runs is typed, in a valid store whose context has the code's signatures.
pub record IsTyped (g : Ghost) : Type 0 where
  pub valid : StoreIsValid g.store
  pub own : ValuesHaveTypes g.store g.locals g.types
  pub typed : ConfigurationHasType g.store (place_of g) (config_of g) g.results
  pub types : (context_at g.store (place_of g)).types ≡ g.code.signatures.types
  pub functions : (context_at g.store (place_of g)).functions ≡ g.code.signatures.functions

-- The cells of the frame are the locals, followed by the values from the bottom to the top.
pub record Holds (g : Ghost) (cells : List ℕ) (top : ℕ) : Type 0 where
  pub held : take top cells ≡
      map cell_of g.locals ++ cells_of (g.values ++ values_under g.labels)
  pub top_is : top ≡ length g.locals + (length g.values + under g.labels)
  pub count : length g.locals ≡ g.code.locals
  pub room : g.code.greatest ≤ length cells

-- The machine, at a place with these cells, runs this.
pub record Runs (g : Ghost) (cells : List ℕ) (at top : ℕ) : Type 0 where
  pub stands : StandsIn g.code at g.values g.labels g.rest
  pub holds : Holds g cells top
  pub typed : IsTyped g

-- The machine is before this operation.
pub record IsBefore (o : FlatOp) (g : Ghost) (cells : List ℕ) (at top : ℕ) : Type 0 where
  pub runs : Runs g cells at top
  pub more : List FlatOp
  pub there : drop at g.code.operations ≡ o ∷ more

-- The next step continues, at this cost. A table or a memory may grow for it.
abbrev pub NextContinues : Next → (cost : ℕ) → Store → Frame → Configuration → Type 0
NextContinues n cost store frame c = (n ≡ Goes cost store frame c) ⊎ (n ≡ Grows cost store frame c)

-- Steps in a frame, none of which opens another one or calls a host function.
pub data StepsIn : Store → Frame → Configuration → (fuel : ℕ) → Store → Frame → Configuration
    → (left : ℕ) → Type 0 where
  none : {store : Store} {frame : Frame} {c : Configuration} {fuel : ℕ}
      → StepsIn store frame c fuel store frame c fuel
  then : {store store' store'' : Store} {frame frame' frame'' : Frame} {c d e : Configuration}
      {cost fuel left : ℕ}
      → NextContinues (next store frame c) cost store' frame' d → cost ≤ fuel
      → StepsIn store' frame' d (fuel - cost) store'' frame'' e left
      → StepsIn store frame c fuel store'' frame'' e left

-- The same frame, over any store.
pub record IsSameFrame (old new : Ghost) : Type 0 where
  pub code : new.code ≡ old.code
  pub instance : new.instance ≡ old.instance
  pub types : new.types ≡ old.types
  pub results : new.results ≡ old.results

-- What runs leads, with this fuel, to this store and to what the machine runs then.
pub record FrameReaches (g : Ghost) (fuel : ℕ) (store' : Store) (cells : List ℕ) (at top left : ℕ)
    : Type 0 where
  pub new : Ghost
  pub same : IsSameFrame g new
  pub store : new.store ≡ store'
  pub steps : StepsIn g.store (frame_of g) (config_of g) fuel store' (frame_of new) (config_of new)
      left
  pub runs : Runs new cells at top

-- It leads, with the store unchanged, to where the next step costs more than the fuel left.
pub record Lacks (g : Ghost) (fuel : ℕ) (cells : List ℕ) (at top left : ℕ) : Type 0 where
  pub leads : FrameReaches g fuel g.store cells at top left
  pub dear : left < price (next leads.new.store (frame_of leads.new) (config_of leads.new))

-- It leads, with the store unchanged, to where the next step traps, for one unit of fuel.
pub record Fails (g : Ghost) (fuel : ℕ) (cells : List ℕ) (at top left : ℕ) (trap : Trap)
    : Type 0 where
  pub leads : FrameReaches g fuel g.store cells at top (left + 1)
  pub traps : next leads.new.store (frame_of leads.new) (config_of leads.new) ≡ Traps 1 trap

-- It leads, with the store unchanged, to where a table or a memory grows next, at this cost.
pub record AsksToGrow (g : Ghost) (fuel : ℕ) (cells : List ℕ) (at top cost : ℕ) : Type 0 where
  pub leads : FrameReaches g fuel g.store cells at top fuel
  pub grown : Store
  pub frame : Frame
  pub behind : Configuration
  pub grows : next leads.new.store (frame_of leads.new) (config_of leads.new) ≡
      Grows cost grown frame behind
