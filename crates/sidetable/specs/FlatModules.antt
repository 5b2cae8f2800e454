-- The flat code of a module: that of its functions, one after the other.
use Rattle.std.specs.Prelude.{◌≡◌, ◌+◌, ◌<◌, ◌^◌, List, [], ◌∷◌, ◌++◌, length, drop}
use Rattle.std.specs.List.{All}
use Rattle.core_types.specs.declared.module.Func.{Func}
use Rattle.core_types.specs.declared.module.Module.{Module}
use Rattle.meaning.specs.structure.Bodies.{Body, writing}
use Rattle.meaning.specs.validation.Modules.{functions_of, type_at}
use Rattle.sidetable.specs.Counts.{Signatures}
use Rattle.sidetable.specs.Flat.{FlatOp, function_greatest, function_operations}
use Rattle.sidetable.specs.Packing.{IsWithin, made}
use Rattle.sidetable.specs.declared.flat_module.FlatModule.{FlatModule}
use Rattle.sidetable.specs.declared.flat_module.PackedFunction.{PackedFunction}

-- The operations of all functions.
abbrev pub operations_of : FlatModule → List FlatOp
operations_of m = made m.tables m.operations.items

-- What its operations name by number exists.
abbrev pub AreWithin : FlatModule → Type 0
AreWithin m = All (IsWithin m.tables) m.operations.items

-- The types that the bodies of a module's functions refer to.
abbrev pub module_signatures : Module → Signatures
module_signatures m = record { types = m.types; functions = functions_of m }

-- A function's code is the writing of a body.
abbrev pub HasBody : Func → Type 0
HasBody f = (body : Body) × (f.body ≡ writing body)

-- The flat code of this body begins at the function's place among operations.
pub record IsFlatBody (s : Signatures) (ops : List FlatOp) (p : PackedFunction) (body : Body)
    : Type 0 where
  pub more : List FlatOp
  pub placed : drop p.place ops ≡ function_operations s p.locals p.results p.place body ++ more
  pub greatest : p.greatest ≡ function_greatest s p.locals p.results body

-- This is a function, packed, whose flat code is among these operations.
pub record IsFlat (s : Signatures) (ops : List FlatOp) (f : Func) (p : PackedFunction) : Type 0 where
  pub flat : (body : Body) → f.body ≡ writing body → IsFlatBody s ops p body
  pub params : p.params ≡ length (type_at s.types f.ty).params
  pub locals : p.locals ≡ length (type_at s.types f.ty).params + length f.locals
  pub results : p.results ≡ length (type_at s.types f.ty).results

-- The same for functions in their order.
abbrev pub AreFlat : Signatures → List FlatOp → List Func → List PackedFunction → Type 0
AreFlat s ops [] [] = Unit {0}
AreFlat s ops [] (p ∷ ps) = ⊥
AreFlat s ops (f ∷ fs) [] = ⊥
AreFlat s ops (f ∷ fs) (p ∷ ps) = IsFlat s ops f p × AreFlat s ops fs ps

-- This is the flat code of a module.
pub record IsFlatModule (m : Module) (flat : FlatModule) : Type 0 where
  pub within : AreWithin flat
  pub few : length flat.operations.items < 2 ^ 32
  pub functions : AreFlat (module_signatures m) (operations_of flat) m.funcs flat.functions.items
