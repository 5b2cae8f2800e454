-- Which flat operations are the writing of a tree: those that begin and end bodies in turn.
use Rattle.std.proofs.Common.{List, [], ap, append_assoc, inl, inr, refl, subst, sym, ◌++◌, ◌∙◌, ◌∷◌, ◌≡◌, ◌⊎◌}
use Rattle.std.proofs.lemmas.List.{append-nil}
use Rattle.core_types.specs.declared.op.BlockType.{BlockType}
use Rattle.core_types.specs.declared.op.Op.{Op}
use Rattle.core_types.specs.declared.op.Op.TheVariants.{Block, Else, End, If, Loop, Plain}
use Rattle.meaning.specs.structure.Bodies.{BlockKind, Body, Empty, IfElse, IfKind, Kind, LoopKind, Nested, Then, mark_of, writing}
use Rattle.binary.specs.Expressions.{next_bodies}
use Rattle.binary.specs.declared.expressions.Flow.TheVariants.{Continues}
use Rattle.binary.specs.declared.expressions.OpenBody.{OpenBody}
use Rattle.binary.specs.declared.expressions.OpenBody.TheVariants.{InBlock, InIf}

-- The operations begin with these open bodies, and end all of them.
abbrev pub ClosesBodies : List OpenBody → List Op → Type 0
ClosesBodies [] [] = Unit {0}
ClosesBodies (open_body ∷ open_bodies) [] = ⊥
ClosesBodies open_bodies (op ∷ ops) =
    ((next_bodies open_bodies op).0 ≡ Continues) × ClosesBodies (next_bodies open_bodies op).1 ops

-- ---- the writing of a tree can be continued

-- a body up to its end, and what follows it
up_to_end : (open_body : OpenBody) (open_bodies : List OpenBody) (inner rest : Body) (after : List Op)
    → ClosesBodies (open_body ∷ open_bodies) (writing inner ++ (End ∷ (writing rest ++ after)))
    → ClosesBodies (open_body ∷ open_bodies) ((writing inner ++ (End ∷ writing rest)) ++ after)
up_to_end open_body open_bodies inner rest after =
    subst (λ (ops : List Op). ClosesBodies (open_body ∷ open_bodies) ops) (sym (append_assoc (writing inner) (End ∷ writing rest) after))

pub writing_closes : (tree : Body) (open_bodies : List OpenBody) (after : List Op)
    → ClosesBodies open_bodies after → ClosesBodies open_bodies (writing tree ++ after)
writing_closes Empty open_bodies after p = p
writing_closes (Then op rest) open_bodies after p = (refl, writing_closes rest open_bodies after p)
writing_closes (Nested BlockKind t inner rest) open_bodies after p = (
  refl,
  up_to_end InBlock open_bodies inner rest after
      (writing_closes inner (InBlock ∷ open_bodies) (End ∷ (writing rest ++ after)) (refl, writing_closes rest open_bodies after p)),
)
writing_closes (Nested LoopKind t inner rest) open_bodies after p = (
  refl,
  up_to_end InBlock open_bodies inner rest after
      (writing_closes inner (InBlock ∷ open_bodies) (End ∷ (writing rest ++ after)) (refl, writing_closes rest open_bodies after p)),
)
writing_closes (Nested IfKind t inner rest) open_bodies after p = (
  refl,
  up_to_end InIf open_bodies inner rest after
      (writing_closes inner (InIf ∷ open_bodies) (End ∷ (writing rest ++ after)) (refl, writing_closes rest open_bodies after p)),
)
writing_closes (IfElse t inner other rest) open_bodies after p =
    let last : List Op = End ∷ (writing rest ++ after) in
    let second : ClosesBodies (InBlock ∷ open_bodies) (writing other ++ last) =
    writing_closes other (InBlock ∷ open_bodies) last (refl, writing_closes rest open_bodies after p) in
    let grouped : (writing other ++ (End ∷ writing rest)) ++ after ≡ writing other ++ last =
    append_assoc (writing other) (End ∷ writing rest) after in
    let bodies : List Op = writing inner ++ (Else ∷ (writing other ++ (End ∷ writing rest))) in
    let parts : bodies ++ after ≡ writing inner ++ (Else ∷ (writing other ++ last)) =
    append_assoc (writing inner) (Else ∷ (writing other ++ (End ∷ writing rest))) after
    ∙ ap (λ (ops : List Op). writing inner ++ (Else ∷ ops)) grouped in
    let both = writing_closes inner (InIf ∷ open_bodies) (Else ∷ (writing other ++ last)) (refl, second) in
    (refl, subst (λ (ops : List Op). ClosesBodies (InIf ∷ open_bodies) ops) (sym parts) both)

-- ---- what can be continued is the writing of a tree

-- the writing of a tree, and then something with the property
abbrev Before : (List Op → Type 0) → List Op → Type 0
Before Q ops = (tree : Body) × (after : List Op) × (ops ≡ writing tree ++ after) × Q after

-- an end, the writing of a tree, and then something with the property
abbrev Ends : (List Op → Type 0) → List Op → Type 0
Ends Q ops = (more : List Op) × (ops ≡ End ∷ more) × Before Q more

-- what closes the open bodies, the innermost first
abbrev Closing : List OpenBody → List Op → Type 0
Closing [] ops = ops ≡ []
Closing (InBlock ∷ open_bodies) ops = Ends (Closing open_bodies) ops
Closing (InIf ∷ open_bodies) ops =
    Ends (Closing open_bodies) ops ⊎
    ((more : List Op) × (ops ≡ Else ∷ more) × Before (Ends (Closing open_bodies)) more)

nested : (Q : List Op → Type 0) (kind : Kind) (t : BlockType) (mark : Op) (ops : List Op)
    → mark ≡ mark_of kind t → Before (Ends Q) ops → Before Q (mark ∷ ops)
nested Q kind t mark ops is (inner, after, parts, (more, ends, (rest, last, tail, closes))) =
    let whole : ops ≡ (writing inner ++ (End ∷ writing rest)) ++ last =
    parts ∙ ap (λ (z : List Op). writing inner ++ z) (ends ∙ ap (λ (z : List Op). End ∷ z) tail)
    ∙ sym (append_assoc (writing inner) (End ∷ writing rest) last) in
    let marked : mark ∷ ops ≡ writing (Nested kind t inner rest) ++ last =
    ap (λ (op : Op). op ∷ ops) is ∙ ap (λ (z : List Op). mark_of kind t ∷ z) whole in
    (Nested kind t inner rest, last, marked, closes)

two_bodies : (Q : List Op → Type 0) (t : BlockType) (inner : Body) (ops after more : List Op)
    → ops ≡ writing inner ++ after → after ≡ Else ∷ more → Before (Ends Q) more → Before Q (If t ∷ ops)
two_bodies Q t inner ops after more parts else (other, behind, middle, (rest_ops, ends, (rest, last, tail, closes))) =
    let second : more ≡ (writing other ++ (End ∷ writing rest)) ++ last =
    middle ∙ ap (λ (z : List Op). writing other ++ z) (ends ∙ ap (λ (z : List Op). End ∷ z) tail)
    ∙ sym (append_assoc (writing other) (End ∷ writing rest) last) in
    let whole : ops ≡ (writing inner ++ (Else ∷ (writing other ++ (End ∷ writing rest)))) ++ last =
    parts ∙ ap (λ (z : List Op). writing inner ++ z) (else ∙ ap (λ (z : List Op). Else ∷ z) second)
    ∙ sym (append_assoc (writing inner) (Else ∷ (writing other ++ (End ∷ writing rest))) last) in
    (IfElse t inner other rest, last, ap (λ (z : List Op). If t ∷ z) whole, closes)

one_or_two : (open_bodies : List OpenBody) (t : BlockType) (ops : List Op)
    → Before (Closing (InIf ∷ open_bodies)) ops → Before (Closing open_bodies) (If t ∷ ops)
one_or_two open_bodies t ops (inner, after, parts, inl ends) =
    nested (Closing open_bodies) IfKind t (If t) ops refl (inner, after, parts, ends)
one_or_two open_bodies t ops (inner, after, parts, inr (more, else, others)) =
    two_bodies (Closing open_bodies) t inner ops after more parts else others

closes_before : (ops : List Op) (open_bodies : List OpenBody) → ClosesBodies open_bodies ops
    → Before (Closing open_bodies) ops
closes_before [] [] p = (Empty, [], refl, refl)
closes_before [] (open_body ∷ open_bodies) p = absurd p
closes_before (Plain op ∷ ops) open_bodies (on, p) =
    let (tree, after, parts, closes) = closes_before ops open_bodies p in
    (Then op tree, after, ap (λ (z : List Op). Plain op ∷ z) parts, closes)
closes_before (Block t ∷ ops) open_bodies (on, p) =
    nested (Closing open_bodies) BlockKind t (Block t) ops refl (closes_before ops (InBlock ∷ open_bodies) p)
closes_before (Loop t ∷ ops) open_bodies (on, p) =
    nested (Closing open_bodies) LoopKind t (Loop t) ops refl (closes_before ops (InBlock ∷ open_bodies) p)
closes_before (If t ∷ ops) open_bodies (on, p) =
    one_or_two open_bodies t ops (closes_before ops (InIf ∷ open_bodies) p)
closes_before (Else ∷ ops) [] (on, p) = absurd cc
closes_before (Else ∷ ops) (InBlock ∷ open_bodies) (on, p) = absurd cc
closes_before (Else ∷ ops) (InIf ∷ open_bodies) (on, p) =
    (Empty, Else ∷ ops, refl, inr (ops, refl, closes_before ops (InBlock ∷ open_bodies) p))
closes_before (End ∷ ops) [] (on, p) = absurd cc
closes_before (End ∷ ops) (InBlock ∷ open_bodies) (on, p) =
    (Empty, End ∷ ops, refl, (ops, refl, closes_before ops open_bodies p))
closes_before (End ∷ ops) (InIf ∷ open_bodies) (on, p) =
    (Empty, End ∷ ops, refl, inl (ops, refl, closes_before ops open_bodies p))

pub closes_tree : (ops : List Op) → ClosesBodies [] ops → (tree : Body) × (ops ≡ writing tree)
closes_tree ops p =
    let (tree, after, parts, nothing) = closes_before ops [] p in
    (tree, parts ∙ ap (λ (z : List Op). writing tree ++ z) nothing ∙ append-nil (writing tree))
