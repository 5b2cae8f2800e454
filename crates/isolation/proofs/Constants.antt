-- Constant expressions and new objects, in two stores that agree within a closed region: the same, within it.
use Rattle.std.proofs.Common.{◌≡◌, ℕ, zero, suc, List, [], ◌∷◌, Option, Some, None, refl, ap, ap₂, subst, ◌∙◌, slice_get, option_map}
use Rattle.std.specs.Prelude.{Result, Ok, Err, option_and_then}
use Rattle.core_types.specs.declared.module.ElementItems.{ElementItems}
use Rattle.core_types.specs.declared.module.ElementItems.TheVariants.{Functions, Expressions}
use Rattle.core_types.specs.declared.module.ElementSegment.{ElementSegment}
use Rattle.core_types.specs.declared.module.Global.{Global}
use Rattle.core_types.specs.declared.op.NumericOp.{NumericOp}
use Rattle.core_types.specs.declared.op.NumericOp.TheVariants.{Binary}
use Rattle.core_types.specs.declared.op.Op.{Op}
use Rattle.core_types.specs.declared.op.Op.TheVariants.{Plain}
use Rattle.core_types.specs.declared.op.PlainOp.{PlainOp}
use Rattle.core_types.specs.declared.op.PlainOp.TheVariants.{I32Const, I64Const, Numeric, Reference, Variable}
use Rattle.core_types.specs.declared.op.ReferenceOp.TheVariants as reference
use Rattle.core_types.specs.declared.op.VariableOp.TheVariants.{GlobalGet}
use Rattle.core_types.specs.declared.op.Width.TheVariants.{W32, W64}
use Rattle.core_types.specs.declared.outcome.Trap.{Trap}
use Rattle.core_types.specs.declared.outcome.Val.{Val}
use Rattle.core_types.specs.declared.outcome.Val.TheVariants.{I32, I64, FuncRef}
use Rattle.meaning.specs.execution.Modules.{cons, constant, constant_operands, constant_step, constant_value, map_all, new_elements, new_global, only, operate, references, with_integer}
use Rattle.meaning.specs.execution.Numerics.{binary_operator}
use Rattle.meaning.specs.execution.Store.{GlobalInstance, ModuleInstance, Store, item_of}
use Rattle.soundness.proofs.Values.{All-at}
use Rattle.isolation.specs.Regions.{AgreeWithin, ElementIsWithin, GlobalIsWithin, Has, InstanceIsWithin, IsClosed, Region, ValueIsWithin, ValuesAreWithin}
use Rattle.isolation.proofs.Within.{null-within}

-- The property holds for the item, if there is one.
abbrev pub OfSome : {X : Type 0} → (X → Type 0) → Option X → Type 0
OfSome P None = Unit {0}
OfSome P (Some x) = P x

-- The property holds for each item.
abbrev pub OfEach : {X : Type 0} → (X → Type 0) → List X → Type 0
OfEach P [] = Unit {0}
OfEach P (x ∷ xs) = P x × OfEach P xs

pub each-at : {X : Type 0} (P : X → Type 0) (xs : List X) → OfEach P xs → (k : ℕ) (x : X) → slice_get xs k ≡ Some x → P x
each-at P [] each k x is = absurd cc
each-at P (y ∷ xs) each zero x is = let same : y ≡ x = cc in subst P same each.0
each-at P (y ∷ xs) each (suc k) x is = each-at P xs each.1 k x is

pub values-each : (region : Region) (vs : List Val) → OfEach (ValueIsWithin region) vs → ValuesAreWithin region vs
values-each region [] each = tt
values-each region (v ∷ vs) each = (each.0, values-each region vs each.1)

pub maps-of : {A B : Type 0} (f : A → B) (P : A → Type 0) (Q : B → Type 0) → ((x : A) → P x → Q (f x)) → (o : Option A) → OfSome P o → OfSome Q (option_map f o)
maps-of f P Q more None of = tt
maps-of f P Q more (Some x) of = more x of

pub maps-agree : {A B : Type 0} (f g : A → Option B) (P : B → Type 0) → ((x : A) → (g x ≡ f x) × OfSome P (f x)) → (xs : List A) → (map_all g xs ≡ map_all f xs) × OfSome (OfEach P) (map_all f xs)
maps-agree f g P each [] = (refl, tt)
maps-agree {A} {B} f g P each (x ∷ xs) =
    let (same, of) = each x in
    let (others, of_others) = maps-agree f g P each xs in
    (ap₂ (λ (o : Option B) (os : Option (List B)). cons o os) same others, go (f x) (map_all f xs) of of_others)
  where
    go : (o : Option B) (os : Option (List B)) → OfSome P o → OfSome (OfEach P) os → OfSome (OfEach P) (cons o os)
    go None os of ofs = tt
    go (Some y) None of ofs = tt
    go (Some y) (Some ys) of ofs = (of, ofs)

module _ (region : Region) (a b : Store) (closed : IsClosed region a) (agree : AgreeWithin region a b) (i : ModuleInstance) (has : InstanceIsWithin region i) where
  abbrev Within : Option Val → Type 0
  Within = OfSome (ValueIsWithin region)

  abbrev AreWithin : Option (List Val) → Type 0
  AreWithin = OfSome (ValuesAreWithin region)

  -- ---- constant instructions

  function-within : (o : Option ℕ) → ((address : ℕ) → o ≡ Some address → Has region.functions address) → Within (option_map (λ (address : ℕ). FuncRef (Some address)) o)
  function-within None there = tt
  function-within (Some address) there = there address refl

  global-same : (o : Option ℕ) → ((address : ℕ) → o ≡ Some address → Has region.globals address)
      → (option_map (λ (g : GlobalInstance). g.value) (item_of b.globals o) ≡ option_map (λ (g : GlobalInstance). g.value) (item_of a.globals o))
      × Within (option_map (λ (g : GlobalInstance). g.value) (item_of a.globals o))
  global-same None there = (refl, tt)
  global-same (Some address) there = (ap (option_map (λ (g : GlobalInstance). g.value)) (agree.globals address (there address refl)), go (slice_get a.globals address) refl)
    where
      go : (o : Option GlobalInstance) → slice_get a.globals address ≡ o → Within (option_map (λ (g : GlobalInstance). g.value) o)
      go None is = tt
      go (Some g) is = closed.globals address g (there address refl) is

  pub constants-agree : (op : PlainOp) → (constant b i op ≡ constant a i op) × Within (constant a i op)
  constants-agree (I32Const n) = (refl, tt)
  constants-agree (I64Const n) = (refl, tt)
  constants-agree (Reference (reference.Null t)) = (refl, null-within region t)
  constants-agree (Reference (reference.Func x)) = (refl, function-within (slice_get i.functions x) (λ address is. All-at (Has region.functions) i.functions x address is has.functions))
  constants-agree (Variable (GlobalGet x)) = global-same (slice_get i.globals x) (λ address is. All-at (Has region.globals) i.globals x address is has.globals)
  constants-agree op = (refl, tt)

  with-integer : (integer : ℕ → Val) → ((n : ℕ) → ValueIsWithin region (integer n)) → (r : Result ℕ Trap) (operands : List Val)
      → ValuesAreWithin region operands → AreWithin (with_integer integer r operands)
  with-integer integer fits (Ok n) operands within = (fits n, within)
  with-integer integer fits (Err trap) operands within = tt

  operates : (op : NumericOp) (operands : List Val) → ValuesAreWithin region operands → AreWithin (operate op operands)
  operates (Binary W32 op) (I32 m ∷ (I32 n ∷ operands)) within = with-integer I32 (λ k. tt) (binary_operator 32 op n m) operands within.1.1
  operates (Binary W64 op) (I64 m ∷ (I64 n ∷ operands)) within = with-integer I64 (λ k. tt) (binary_operator 64 op n m) operands within.1.1
  operates op operands within = tt

  pushes : (op : PlainOp) (operands : List Val) → ValuesAreWithin region operands
      → (option_map (λ (v : Val). v ∷ operands) (constant b i op) ≡ option_map (λ (v : Val). v ∷ operands) (constant a i op)) × AreWithin (option_map (λ (v : Val). v ∷ operands) (constant a i op))
  pushes op operands within =
      let (same, fits) = constants-agree op in
      (ap (option_map (λ (v : Val). v ∷ operands)) same, maps-of (λ (v : Val). v ∷ operands) (ValueIsWithin region) (ValuesAreWithin region) (λ v fit. (fit, within)) (constant a i op) fits)

  steps-agree : (op : PlainOp) (operands : List Val) → ValuesAreWithin region operands → (constant_step b i op operands ≡ constant_step a i op operands) × AreWithin (constant_step a i op operands)
  steps-agree (Numeric op) operands within = (refl, operates op operands within)
  steps-agree op operands within = pushes op operands within

  operands-agree : (ops : List Op) (operands : List Val) → ValuesAreWithin region operands
      → (constant_operands b i ops operands ≡ constant_operands a i ops operands) × AreWithin (constant_operands a i ops operands)
  operands-agree [] operands within = (refl, within)
  operands-agree (Plain op ∷ ops) operands within =
      let (same, fits) = steps-agree op operands within in
      let (others, fit) = go (λ vs vs_within. operands-agree ops vs vs_within) (constant_step a i op operands) fits in
      (ap (option_and_then (constant_operands b i ops)) same ∙ others, fit)
    where
      go : ((vs : List Val) → ValuesAreWithin region vs → (constant_operands b i ops vs ≡ constant_operands a i ops vs)
          × AreWithin (constant_operands a i ops vs)) → (o : Option (List Val)) → AreWithin o
          → (option_and_then (constant_operands b i ops) o ≡ option_and_then (constant_operands a i ops) o) × AreWithin (option_and_then (constant_operands a i ops) o)
      go each None fits = (refl, tt)
      go each (Some vs) fits = each vs fits
  operands-agree (op ∷ ops) operands within = (refl, tt)

  only-within : (o : Option (List Val)) → AreWithin o → Within (only o)
  only-within (Some (v ∷ [])) within = within.0
  only-within o within = tt

  pub values-agree : (ops : List Op) → (constant_value b i ops ≡ constant_value a i ops) × Within (constant_value a i ops)
  values-agree ops =
      let (same, fits) = operands-agree ops [] tt in
      (ap only same, only-within (constant_operands a i ops []) fits)

  -- ---- objects

  globals-agree : (g : Global) → (new_global b i g ≡ new_global a i g) × OfSome (GlobalIsWithin region) (new_global a i g)
  globals-agree g =
      let (same, fits) = values-agree g.init in (
        ap (option_map (λ (v : Val). record { ty = g.ty; value = v })) same,
        maps-of (λ (v : Val). record { ty = g.ty; value = v }) (ValueIsWithin region) (GlobalIsWithin region) (λ v fit. fit) (constant_value a i g.init) fits,
      )

  references-agree : (items : ElementItems) → (references b i items ≡ references a i items) × OfSome (OfEach (ValueIsWithin region)) (references a i items)
  references-agree (Functions indices) =
      maps-agree (λ (x : ℕ). constant a i (Reference (reference.Func x))) (λ (x : ℕ). constant b i (Reference (reference.Func x)))
      (ValueIsWithin region) (λ x. constants-agree (Reference (reference.Func x))) indices
  references-agree (Expressions expressions) = maps-agree (constant_value a i) (constant_value b i) (ValueIsWithin region) values-agree expressions

  elements-agree : (e : ElementSegment) → (new_elements b i e ≡ new_elements a i e) × OfSome (ElementIsWithin region) (new_elements a i e)
  elements-agree e =
      let (same, fits) = references-agree e.items in (
        ap (option_map (λ (vs : List Val). record { ty = e.ty; references = vs })) same,
        maps-of (λ (vs : List Val). record { ty = e.ty; references = vs }) (OfEach (ValueIsWithin region)) (ElementIsWithin region) (λ vs fit. values-each region vs fit) (references a i e.items) fits,
      )

  pub all-globals-agree : (gs : List Global) → (map_all (new_global b i) gs ≡ map_all (new_global a i) gs) × OfSome (OfEach (GlobalIsWithin region)) (map_all (new_global a i) gs)
  all-globals-agree gs = maps-agree (new_global a i) (new_global b i) (GlobalIsWithin region) globals-agree gs

  pub all-elements-agree : (es : List ElementSegment) → (map_all (new_elements b i) es ≡ map_all (new_elements a i) es) × OfSome (OfEach (ElementIsWithin region)) (map_all (new_elements a i) es)
  all-elements-agree es = maps-agree (new_elements a i) (new_elements b i) (ElementIsWithin region) elements-agree es
