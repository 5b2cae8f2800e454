-- Flattening the functions of a module, in turn.
use Rattle.std.specs.Prelude.{◌≡◌, ℕ, ◌+◌, ◌<◌, ◌^◌, max, [], ◌∷◌, ◌++◌, length}
use Rattle.core_types.specs.declared.module.Func.{Func}
use Rattle.core_types.specs.declared.op.Op.{Op}
use Rattle.core_types.specs.declared.types.FuncType.{FuncType}
use Rattle.sidetable.specs.Counts.{height_or_zero}
use Rattle.sidetable.specs.Flattening.{EndsAs, IsBegun, IsOpen, Passes, Starts}
use Rattle.sidetable.specs.SideTables.{SideTables}
use Rattle.sidetable.specs.Signatures.{signatures_of}
use Rattle.sidetable.specs.declared.flat_module.Flattener.{Flattener}
use Rattle.sidetable.specs.declared.flat_module.PackedFunction.{PackedFunction}
use Rattle.sidetable.specs.declared.operations.PackedOp.TheVariants as packed

-- The side tables had as many branches by number before the function as are noted.
abbrev pub IsBefore : SideTables → Flattener → Type 0
IsBefore before f = length before.branch_ranges.items ≡ f.first_range

-- A function was begun, and can go on.
abbrev pub IsInFunction : Flattener → Type 0
IsInFunction f =
    (before : SideTables) × IsBefore before f × IsBegun before f.outermost f.flattening

-- A function of this type begins.
pub record BeginsFunction (old : Flattener) (ty : FuncType) (func : Func) (new : Flattener)
    : Type 0 where
  pub types : new.types ≡ old.types
  pub functions : new.functions ≡ old.functions
  pub operations : new.flattening.operations ≡ old.flattening.operations
  pub starts : Starts old.flattening.tables new.outermost new.flattening new.function.locals
      new.function.results
  pub first_range : IsBefore old.flattening.tables new
  pub place : new.function.place ≡ length old.flattening.operations.items
  pub params : new.function.params ≡ length ty.params
  pub locals : new.function.locals ≡ length ty.params + length func.locals
  pub results : new.function.results ≡ length ty.results

-- An operation of the function is flattened.
pub record FlattensOperation (old : Flattener) (op : Op) (new : Flattener) : Type 0 where
  pub types : new.types ≡ old.types
  pub functions : new.functions ≡ old.functions
  pub function : new.function ≡ old.function
  pub outermost : new.outermost ≡ old.outermost
  pub first_range : new.first_range ≡ old.first_range
  pub passes : Passes (signatures_of old.types) old.outermost old.flattening op new.flattening

-- With the greatest height in its frame.
abbrev pub with_greatest : PackedFunction → ℕ → PackedFunction
with_greatest f greatest = record {
  place = f.place;
  params = f.params;
  locals = f.locals;
  results = f.results;
  greatest = greatest;
}

-- The function ends: its side tables are complete, and an operation leaves its frame.
pub record EndsFunction (old new : Flattener) : Type 0 where
  pub types : new.types ≡ old.types
  pub operations : new.flattening.operations.items
      ≡ old.flattening.operations.items ++ packed.Leave old.function.results ∷ []
  pub few : length new.flattening.operations.items < 2 ^ 32
  pub ends : (before : SideTables) → IsBefore before old
      → IsOpen before old.outermost old.flattening []
      → EndsAs before old.outermost old.flattening [] new.flattening.tables
  pub functions : new.functions.items ≡ old.functions.items
      ++ with_greatest old.function
      (max old.flattening.heights.greatest (height_or_zero old.flattening.heights.here)) ∷ []
