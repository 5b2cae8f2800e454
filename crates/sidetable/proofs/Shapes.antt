-- The writing of a body closes what it opens, and an else occurs only in an if.
use Rattle.std.proofs.Common.{◌≡◌, Bool, true, false, List, [], ◌∷◌, ◌++◌, refl, sym, subst, append_assoc}
use Rattle.std.proofs.lemmas.List.{append-nil}
use Rattle.std.specs.Prelude.{Option, None}
use Rattle.core_types.specs.declared.op.Op.{Op}
use Rattle.core_types.specs.declared.op.Op.TheVariants.{Plain, Block, Loop, If, Else, End}
use Rattle.meaning.specs.structure.Bodies.{Body, Part, Empty, Then, Nested, IfElse, BlockKind, LoopKind, IfKind, first_part, other_parts, rests, writing}
use Rattle.sidetable.specs.Shapes.{Closes}

-- ---- the writing of a body

ended-writing : (inner rest : Body) (ops : List Op) (open_body : Bool) (others : List Bool)
    → ((open_bodies : List Bool) (more : List Op) → Closes more open_bodies → Closes (writing inner ++ more) open_bodies)
    → Closes (writing rest ++ ops) others → Closes ((writing inner ++ (End ∷ writing rest)) ++ ops) (open_body ∷ others)
ended-writing inner rest ops open_body others closes behind =
    subst (λ (os : List Op). Closes os (open_body ∷ others)) (sym (append_assoc (writing inner) (End ∷ writing rest) ops)) (closes (open_body ∷ others) (End ∷ (writing rest ++ ops)) behind)

closes-more : (body : Body) (open_bodies : List Bool) (ops : List Op) → Closes ops open_bodies → Closes (writing body ++ ops) open_bodies
closes-more Empty open_bodies ops h = h
closes-more (Then op rest) open_bodies ops h = closes-more rest open_bodies ops h
closes-more (Nested BlockKind type inner rest) open_bodies ops h = ended-writing inner rest ops false open_bodies (closes-more inner) (closes-more rest open_bodies ops h)
closes-more (Nested LoopKind type inner rest) open_bodies ops h = ended-writing inner rest ops false open_bodies (closes-more inner) (closes-more rest open_bodies ops h)
closes-more (Nested IfKind type inner rest) open_bodies ops h = ended-writing inner rest ops true open_bodies (closes-more inner) (closes-more rest open_bodies ops h)
closes-more (IfElse type inner other rest) open_bodies ops h =
    let second = ended-writing other rest ops false open_bodies (closes-more other) (closes-more rest open_bodies ops h) in
    subst (λ (os : List Op). Closes os (true ∷ open_bodies)) (sym (append_assoc (writing inner) (Else ∷ (writing other ++ (End ∷ writing rest))) ops))
    (closes-more inner (true ∷ open_bodies) (Else ∷ ((writing other ++ (End ∷ writing rest)) ++ ops)) second)

pub closes-writing : (body : Body) → Closes (writing body) []
closes-writing body = subst (λ (os : List Op). Closes os []) (append-nil (writing body)) (closes-more body [] [] (tt {0}))

-- ---- an else occurs only where it may

abbrev AllowsElse : Bool → Option Body → Type 0
AllowsElse true other = Unit {0}
AllowsElse false other = other ≡ None

abbrev ElsesFit : List Bool → Option Body → List Part → Type 0
ElsesFit [] other around = other ≡ None
ElsesFit (open_body ∷ others) other around = AllowsElse open_body other × ElsesFit others (first_part around).other (other_parts around)

allows-none : (open_body : Bool) → AllowsElse open_body None
allows-none true = tt {0}
allows-none false = refl

elses-fit : (ops : List Op) (open_bodies : List Bool) → Closes ops open_bodies → ElsesFit open_bodies (rests ops).here.other (rests ops).around
elses-fit [] [] h = refl
elses-fit [] (open_body ∷ others) h = absurd h
elses-fit (Plain op ∷ ops) open_bodies h = elses-fit ops open_bodies h
elses-fit (Block type ∷ ops) open_bodies h = (elses-fit ops (false ∷ open_bodies) h).1
elses-fit (Loop type ∷ ops) open_bodies h = (elses-fit ops (false ∷ open_bodies) h).1
elses-fit (If type ∷ ops) open_bodies h = (elses-fit ops (true ∷ open_bodies) h).1
elses-fit (Else ∷ ops) [] h = absurd h
elses-fit (Else ∷ ops) (false ∷ others) h = absurd h
elses-fit (Else ∷ ops) (true ∷ others) h = (tt {0}, (elses-fit ops (false ∷ others) h).1)
elses-fit (End ∷ ops) [] h = absurd h
elses-fit (End ∷ ops) (open_body ∷ others) h = (allows-none open_body, elses-fit ops others h)

-- In a body after which no else may follow, there is none.
pub no-else : (ops : List Op) (others : List Bool) → Closes ops (false ∷ others) → (rests ops).here.other ≡ None
no-else ops others h = (elses-fit ops (false ∷ others) h).0
