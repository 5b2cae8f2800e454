-- Bodies read from their writing.
use Rattle.std.proofs.Common.{◌≡◌, List, [], ◌∷◌, ◌++◌, refl, sym, ap, ◌∙◌, append_assoc}
use Rattle.std.proofs.lemmas.List.{append-nil}
use Rattle.std.specs.Prelude.{Some, None}
use Rattle.core_types.specs.declared.op.Op.{Op}
use Rattle.core_types.specs.declared.op.Op.TheVariants.{Else, End}
use Rattle.core_types.specs.reading.Bodies.{stray_else}
use Rattle.meaning.specs.structure.Bodies.{Body, BlockKind, LoopKind, IfKind, Empty, Then, Nested, IfElse, Rests, writing, if_with, enclosed, rests, body_of}

-- one body after another
abbrev joined : Body → Body → Body
joined Empty after = after
joined (Then op rest) after = Then op (joined rest after)
joined (Nested kind type inner rest) after = Nested kind type inner (joined rest after)
joined (IfElse type inner other rest) after = IfElse type inner other (joined rest after)

joined-Empty : (b : Body) → joined b Empty ≡ b
joined-Empty Empty = refl
joined-Empty (Then op rest) = ap (Then op) (joined-Empty rest)
joined-Empty (Nested kind type inner rest) = ap (Nested kind type inner) (joined-Empty rest)
joined-Empty (IfElse type inner other rest) = ap (IfElse type inner other) (joined-Empty rest)

-- a body before the rest
abbrev before : Body → Rests → Rests
before b r = record { here = record { body = joined b r.here.body; other = r.here.other }; around = r.around }

-- a body up to an end
abbrev closed : Body → Rests → Rests
closed b r = record { here = record { body = b; other = None }; around = r.here ∷ r.around }

-- a body up to an else
abbrev with_else : Body → Rests → Rests
with_else b r = record { here = record { body = b; other = Some r.here.body }; around = r.around }

abbrev IsReadBefore : Body → Type 0
IsReadBefore b = (ops : List Op) → rests (writing b ++ ops) ≡ before b (rests ops)

pub read-closed : (b : Body) → IsReadBefore b → (ops : List Op) → rests (writing b ++ (End ∷ ops)) ≡ closed b (rests ops)
read-closed b here ops = here (End ∷ ops) ∙ ap (λ (whole : Body). closed whole (rests ops)) (joined-Empty b)

read-else : (b : Body) → IsReadBefore b → (ops : List Op) → rests (writing b ++ (Else ∷ ops)) ≡ with_else b (rests ops)
read-else b here ops = here (Else ∷ ops) ∙ ap (λ (whole : Body). with_else whole (rests ops)) (joined-Empty b)

-- the inside of an instruction with one body, and what follows it
read-inside : (inner rest : Body) → IsReadBefore inner → IsReadBefore rest → (ops : List Op) → rests ((writing inner ++ (End ∷ writing rest)) ++ ops) ≡ closed inner (before rest (rests ops))
read-inside inner rest inside behind ops =
    ap rests (append_assoc (writing inner) (End ∷ writing rest) ops) ∙ read-closed inner inside (writing rest ++ ops) ∙ ap (closed inner) (behind ops)

-- the two insides of an if with an else, and what follows it
read-insides : (inner other rest : Body) → IsReadBefore inner → IsReadBefore other → IsReadBefore rest → (ops : List Op)
    → rests ((writing inner ++ (Else ∷ (writing other ++ (End ∷ writing rest)))) ++ ops) ≡ with_else inner (closed other (before rest (rests ops)))
read-insides inner other rest inside otherwise behind ops =
    ap rests (append_assoc (writing inner) (Else ∷ (writing other ++ (End ∷ writing rest))) ops) ∙ read-else inner inside
    ((writing other ++ (End ∷ writing rest)) ++ ops) ∙ ap (with_else inner) (read-inside other rest otherwise behind ops)

-- A body's writing is read as the body before the rest after it.
pub read : (b : Body) → IsReadBefore b
read Empty ops = refl
read (Then op rest) ops = ap (before (Then op Empty)) (read rest ops)
read (Nested BlockKind type inner rest) ops = ap (enclosed (λ inside behind. Nested BlockKind type inside.body behind)) (read-inside inner rest (read inner) (read rest) ops)
read (Nested LoopKind type inner rest) ops = ap (enclosed (λ inside behind. Nested LoopKind type inside.body behind)) (read-inside inner rest (read inner) (read rest) ops)
read (Nested IfKind type inner rest) ops = ap (enclosed (λ inside behind. if_with type inside.body inside.other behind)) (read-inside inner rest (read inner) (read rest) ops)
read (IfElse type inner other rest) ops = ap (enclosed (λ inside behind. if_with type inside.body inside.other behind)) (read-insides inner other rest (read inner) (read other) (read rest) ops)

-- The rest of a body's writing is the body.
pub read-whole : (b : Body) → body_of (writing b) ≡ b
read-whole b = ap body_of (sym (append-nil (writing b))) ∙ ap (λ (r : Rests). r.here.body) (read b []) ∙ joined-Empty b

-- No body is an else without an if.
pub never_stray : (body : Body) → stray_else ≡ writing body → ⊥
never_stray Empty e = absurd cc
never_stray (Then op rest) e = absurd cc
never_stray (Nested BlockKind type inner rest) e = absurd cc
never_stray (Nested LoopKind type inner rest) e = absurd cc
never_stray (Nested IfKind type inner rest) e = absurd cc
never_stray (IfElse type inner other rest) e = absurd cc
