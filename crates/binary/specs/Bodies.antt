-- Reading a body operation by operation, and a module whose bodies are cut out.
use Rattle.std.specs.Prelude.{◌≡◌, ◌<◌, Bool, Err, List, None, Ok, Result, length, option_map, ℕ, ◌∷◌, ◌||◌}
use Rattle.std.specs.List.{All}
use Rattle.core_types.specs.declared.module.Func.{Func as Function}
use Rattle.core_types.specs.declared.op.Op.{Op}
use Rattle.core_types.specs.reading.Bodies.{operations_in}
use Rattle.meaning.specs.binary.Modules.{names_data}
use Rattle.meaning.specs.structure.Bodies.{Body, writing}
use Rattle.binary.specs.Errors.{OnRefused}
use Rattle.binary.specs.declared.errors.DecodeError.{DecodeError}

-- The bytes of a body that are left, and whether an operation before them named a data segment.
abbrev pub Place : Type 0
Place = List ℕ × Bool

-- What the operations in front of this place are, is this one and what those behind it are.
pub record Passes (here : Place) (op : Op) (behind : Place) : Type 0 where
  pub shorter : length behind.0 < length here.0
  pub operations : operations_in here.0
      ≡ option_map (λ (ops : List Op). op ∷ ops) (operations_in behind.0)
  pub names_data : behind.1 ≡ (here.1 || names_data op)

-- The next operation is read, and is seen by a view. If it is refused, the bytes encode no operations.
abbrev pub PassesNext : {X : Type 0} → (X → Op) → Result X DecodeError → (here behind : Place)
    → Type 0
PassesNext view (Ok x) here behind = Passes here (view x) behind
PassesNext view (Err error) here behind = OnRefused error (operations_in here.0 ≡ None)

-- The bodies of the functions are expressions.
abbrev pub HaveBodies : List Function → Type 0
HaveBodies funcs = All (λ (f : Function). (body : Body) × (f.body ≡ writing body)) funcs
