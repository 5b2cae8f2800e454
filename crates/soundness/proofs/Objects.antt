-- The objects that a module's parts become.
use Rattle.std.proofs.Common.{◌≡◌, suc, List, [], ◌∷◌, map, Option, Some, None, refl, ap, ap₂, ◌∙◌, arith}
use Rattle.std.proofs.lemmas.List.Elements.{All-append, All-replicate}
use Rattle.std.specs.List.{All}
use Rattle.core_types.specs.declared.module.Module.{Module}
use Rattle.meaning.specs.execution.Memories.{new_memory}
use Rattle.meaning.specs.execution.Modules.{cons, map_all, new_data, objects_with}
use Rattle.meaning.specs.execution.Store.{GlobalInstance, ObjectLists}
use Rattle.meaning.specs.execution.Tables.{ElementInstance, new_table}

cons-made : {A : Type 0} (o : Option A) (os : Option (List A)) (ys : List A) → cons o os ≡ Some ys → (y : A) × (rest : List A) × (o ≡ Some y) × (os ≡ Some rest) × (ys ≡ y ∷ rest)
cons-made None os ys is = absurd cc
cons-made (Some y) None ys is = absurd cc
cons-made (Some y) (Some rest) ys is = let same : ys ≡ y ∷ rest = cc in (y, rest, refl, refl, same)

pub All-first : {X : Type 0} (P : X → Type 0) (x : X) (xs : List X) → P x → All P xs → All P (x ∷ xs)
All-first P x xs first others = All-append P (x ∷ []) xs (All-replicate P 1 x first) others

pub All-none : {X : Type 0} (P : X → Type 0) → All P []
All-none P k d inside = let wrong : ⊥ = omega (arith, inside) in absurd wrong

module _ {A B : Type 0} (f : A → Option B) where
  pub made-same : {C : Type 0} (g : B → C) (h : A → C) → ((x : A) (y : B) → f x ≡ Some y → g y ≡ h x) → (xs : List A) (ys : List B) → map_all f xs ≡ Some ys → map g ys ≡ map h xs
  made-same g h each [] ys is = let nothing : ys ≡ [] = cc in ap (λ (z : List B). map g z) nothing
  made-same {C} g h each (x ∷ xs) ys is =
      let (y, rest, first, others, parts) = cons-made (f x) (map_all f xs) ys is in
      ap (λ (z : List B). map g z) parts ∙ ap₂ (λ (c : C) (cs : List C). c ∷ cs) (each x y first) (made-same g h each xs rest others)

  pub made-all : (P : B → Type 0) (Q : A → Type 0) → ((x : A) (y : B) → Q x → f x ≡ Some y → P y) → (xs : List A) (ys : List B) → All Q xs → map_all f xs ≡ Some ys → All P ys
  made-all P Q each [] ys all is = let nothing : ys ≡ [] = cc in rw nothing (All-none P)
  made-all P Q each (x ∷ xs) ys all is =
      let (y, rest, first, others, parts) = cons-made (f x) (map_all f xs) ys is in
      rw parts (All-first P y rest (each x y (all 0 x (omega (arith))) first) (made-all P Q each xs rest (λ k d inside. all (suc k) d (omega (arith, inside))) others))

module _ {A B : Type 0} (f : A → Option B) where
  -- If each item has a value, all have.
  pub all-found : (xs : List A) → All (λ (x : A). (y : B) × (f x ≡ Some y)) xs → (ys : List B) × (map_all f xs ≡ Some ys)
  all-found [] each = ([], refl)
  all-found (x ∷ xs) each =
      let (y, first) = each 0 x (omega (arith)) in
      let (ys, others) = all-found xs (λ k d inside. each (suc k) d (omega (arith, inside))) in
      (y ∷ ys, ap₂ (λ (o : Option B) (os : Option (List B)). cons o os) first others)

pub All-map : {A B : Type 0} (P : B → Type 0) (Q : A → Type 0) (f : A → B) → ((x : A) → Q x → P (f x)) → (xs : List A) → All Q xs → All P (map f xs)
All-map P Q f each [] all = All-none P
All-map P Q f each (x ∷ xs) all = All-first P (f x) (map f xs) (each x (all 0 x (omega (arith)))) (All-map P Q f each xs (λ k d inside. all (suc k) d (omega (arith, inside))))

pub objects-made : (m : Module) (globals : Option (List GlobalInstance)) (elements : Option (List ElementInstance)) (objects : ObjectLists) → objects_with m globals elements ≡ Some objects
    → (gs : List GlobalInstance) × (es : List ElementInstance) × (globals ≡ Some gs) × (elements ≡ Some es)
    × (objects ≡ record { tables = map new_table m.tables; memories = map new_memory m.memories; globals = gs; elements = es; datas = map new_data m.datas })
objects-made m None elements objects is = absurd cc
objects-made m (Some gs) None objects is = absurd cc
objects-made m (Some gs) (Some es) objects is = (
  gs,
  es,
  refl,
  refl,
  let same : objects
      ≡ record { tables = map new_table m.tables; memories = map new_memory m.memories; globals = gs; elements = es; datas = map new_data m.datas } = cc in same,
)

-- If all constant expressions have values, the objects exist.
pub objects-found : (m : Module) (globals : Option (List GlobalInstance)) (elements : Option (List ElementInstance)) (gs : List GlobalInstance) (es : List ElementInstance)
    → globals ≡ Some gs → elements ≡ Some es → objects_with m globals elements ≡ None → ⊥
objects-found m globals elements gs es first second none =
    let found : objects_with m globals elements
    ≡ objects_with m (Some gs) (Some es) = ap₂ (λ (a : Option (List GlobalInstance)) (b : Option (List ElementInstance)). objects_with m a b)
    first second in
    absurd cc
