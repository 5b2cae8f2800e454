-- The shape of the rest of a function's code: each open body is closed, and an else follows only the first body of an if.
use Rattle.std.specs.Prelude.{Bool, true, false, List, [], ◌∷◌}
use Rattle.core_types.specs.declared.op.Op.{Op}
use Rattle.core_types.specs.declared.op.Op.TheVariants.{Plain, Block, Loop, If, Else, End}

-- Open bodies, from the inside out, each with whether an else may follow.
abbrev pub IsNoneOpen : List Bool → Type 0
IsNoneOpen [] = Unit {0}
IsNoneOpen (open_body ∷ others) = ⊥

-- After an else the second body is open.
abbrev pub BehindElse : (List Bool → Type 0) → List Bool → Type 0
BehindElse P [] = ⊥
BehindElse P (false ∷ others) = ⊥
BehindElse P (true ∷ others) = P (false ∷ others)

abbrev pub BehindEnd : (List Bool → Type 0) → List Bool → Type 0
BehindEnd P [] = ⊥
BehindEnd P (open_body ∷ others) = P others

-- These operations close the open bodies.
abbrev pub Closes : List Op → List Bool → Type 0
Closes [] open_bodies = IsNoneOpen open_bodies
Closes (Plain op ∷ ops) open_bodies = Closes ops open_bodies
Closes (Block type ∷ ops) open_bodies = Closes ops (false ∷ open_bodies)
Closes (Loop type ∷ ops) open_bodies = Closes ops (false ∷ open_bodies)
Closes (If type ∷ ops) open_bodies = Closes ops (true ∷ open_bodies)
Closes (Else ∷ ops) open_bodies = BehindElse (Closes ops) open_bodies
Closes (End ∷ ops) open_bodies = BehindEnd (Closes ops) open_bodies
