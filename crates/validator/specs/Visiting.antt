-- What a visitor is shown: the functions of a module in turn, and the operations of each.
use Rattle.std.specs.Prelude.{◌≡◌, List, Some, [], ◌∷◌, slice_get}
use Rattle.core_types.specs.declared.module.Func.{Func}
use Rattle.core_types.specs.declared.op.Op.{Op}
use Rattle.core_types.specs.declared.types.FuncType.{FuncType}
use Rattle.binary.specs.Bodies.{Passes, Place}
use Rattle.validator.specs.Steps.{StepsTo}
use Rattle.validator.specs.declared.context.BodyContext.{BodyContext}
use Rattle.validator.specs.declared.control_frames.Stacks.{Stacks}

-- Each of these leads on from where the one before it led to.
module _ {S A : Type 0} (Leads : S → A → S → Type 0) where
  abbrev pub InTurn : S → List A → S → Type 0
  InTurn from [] to = from ≡ to
  InTurn from (x ∷ xs) to = (next : S) × Leads from x next × InTurn next xs to

-- The next operation that these bytes encode is possible, and is shown.
module _ {S : Type 0} (Visits : S → Op → S → Type 0) where
  abbrev pub IsShownNext : BodyContext → (old new : Stacks) → (from to : S)
      → (here behind : Place) → Type 0
  IsShownNext lent old new from to here behind =
      (o : Op) × Passes here o behind × StepsTo lent old new o × Visits from o to

-- A function is shown, of a module with these types.
module _ {S : Type 0} (Begins : S → FuncType → Func → S → Type 0) (Visits : S → Op → S → Type 0)
    (Ends : S → S → Type 0) (types : List FuncType) where
  abbrev pub IsShownFunction : S → Func → S → Type 0
  IsShownFunction from f to =
      (ty : FuncType) × (first : S) × (last : S) × (slice_get types f.ty ≡ Some ty)
      × Begins from ty f first × InTurn Visits first f.body last × Ends last to
