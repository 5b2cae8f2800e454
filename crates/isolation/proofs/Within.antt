-- Values within a region, and items of lists.
use Rattle.std.proofs.Common.{◌≡◌, ℕ, zero, suc, List, [], ◌∷◌, ◌++◌, map, take, drop, reverse, replicate, Some, refl, ap, sym, subst, slice_get, slice_set, inl, inr}
use Rattle.std.proofs.lemmas.List.{reverse-append}
use Rattle.core_types.specs.declared.outcome.Val.{Val}
use Rattle.core_types.specs.declared.types.RefType.{RefType}
use Rattle.core_types.specs.declared.types.RefType.TheVariants as ref
use Rattle.core_types.specs.declared.types.ValType.{ValType}
use Rattle.core_types.specs.declared.types.ValType.TheVariants as ty
use Rattle.meaning.specs.execution.Configurations.{Configuration, InFrame, InLabel, Invoking, Running, answered}
use Rattle.meaning.specs.execution.Storage.{items_at, overwrite}
use Rattle.meaning.specs.execution.Values.{default_of, null_of}
use Rattle.soundness.proofs.Writes.{set-at}
use Rattle.isolation.specs.Regions.{ConfigurationIsWithin, EachLeads, Has, IsSameWithin, Region, StaysOutside, ValueIsWithin, ValuesAreWithin}

module _ (region : Region) where
  -- ---- values

  pub append-within : (vs ws : List Val) → ValuesAreWithin region vs → ValuesAreWithin region ws → ValuesAreWithin region (vs ++ ws)
  append-within [] ws first second = second
  append-within (v ∷ vs) ws first second = (first.0, append-within vs ws first.1 second)

  pub take-within : (n : ℕ) (vs : List Val) → ValuesAreWithin region vs → ValuesAreWithin region (take n vs)
  take-within zero vs within = tt
  take-within (suc n) [] within = tt
  take-within (suc n) (v ∷ vs) within = (within.0, take-within n vs within.1)

  pub drop-within : (n : ℕ) (vs : List Val) → ValuesAreWithin region vs → ValuesAreWithin region (drop n vs)
  drop-within zero vs within = within
  drop-within (suc n) [] within = tt
  drop-within (suc n) (v ∷ vs) within = drop-within n vs within.1

  pub reverse-within : (vs : List Val) → ValuesAreWithin region vs → ValuesAreWithin region (reverse vs)
  reverse-within [] within = tt
  reverse-within (v ∷ vs) within = rw (reverse-append (v ∷ []) vs) (append-within (reverse vs) (v ∷ []) (reverse-within vs within.1) (within.0, tt))

  pub replicate-within : (n : ℕ) (v : Val) → ValueIsWithin region v → ValuesAreWithin region (replicate n v)
  replicate-within zero v within = tt
  replicate-within (suc n) v within = (within, replicate-within n v within)

  pub set-within : (vs : List Val) (x : ℕ) (v : Val) → ValuesAreWithin region vs → ValueIsWithin region v → ValuesAreWithin region (slice_set vs x v)
  set-within [] x v within fits = tt
  set-within (w ∷ vs) zero v within fits = (fits, within.1)
  set-within (w ∷ vs) (suc x) v within fits = (within.0, set-within vs x v within.1 fits)

  pub at-within : (vs : List Val) (x : ℕ) (v : Val) → ValuesAreWithin region vs → slice_get vs x ≡ Some v → ValueIsWithin region v
  at-within [] x v within is = absurd cc
  at-within (w ∷ vs) zero v within is = let same : w ≡ v = cc in subst (ValueIsWithin region) same within.0
  at-within (w ∷ vs) (suc x) v within is = at-within vs x v within.1 is

  pub overwrite-within : (vs : List Val) (offset : ℕ) (ws : List Val) → ValuesAreWithin region vs → ValuesAreWithin region ws → ValuesAreWithin region (overwrite vs offset ws)
  overwrite-within vs offset ws first second = append-within (take offset vs) _ (take-within offset vs first) (append-within ws _ second (drop-within _ vs first))

  pub items-within : (vs : List Val) (offset count : ℕ) → ValuesAreWithin region vs → ValuesAreWithin region (items_at vs offset count)
  items-within vs offset count within = take-within count (drop offset vs) (drop-within offset vs within)

  pub default-within : (t : ValType) → ValueIsWithin region (default_of t)
  default-within ty.I32 = tt
  default-within ty.I64 = tt
  default-within ty.FuncRef = tt
  default-within ty.ExternRef = tt

  pub defaults-within : (ts : List ValType) → ValuesAreWithin region (map default_of ts)
  defaults-within [] = tt
  defaults-within (t ∷ ts) = (default-within t, defaults-within ts)

  pub null-within : (t : RefType) → ValueIsWithin region (null_of t)
  null-within ref.FuncRef = tt
  null-within ref.ExternRef = tt

  pub answered-within : (results : List Val) (c : Configuration) → ValuesAreWithin region results → ConfigurationIsWithin region c → ConfigurationIsWithin region (answered results c)
  answered-within results (Running values rest) given within = append-within (reverse results) values (reverse-within results given) within
  answered-within results (InLabel label inside) given within = (within.0, answered-within results inside given within.1)
  answered-within results (InFrame activation frame inside) given within = (within.0, within.1, answered-within results inside given within.2)
  answered-within results (Invoking arguments address) given within = within

-- ---- one item of a list

module _ {X : Type 0} where
  pub set-same : (a b : List X) (at k : ℕ) (new : X) → slice_get b at ≡ slice_get a at → slice_get b k ≡ slice_get a k → slice_get (slice_set b at new) k ≡ slice_get (slice_set a at new) k
  set-same [] [] at k new there same = same
  set-same [] (y ∷ b) zero k new there same = absurd cc
  set-same [] (y ∷ b) (suc at) zero new there same = absurd cc
  set-same [] (y ∷ b) (suc at) (suc k) new there same = set-same [] b at k new there same
  set-same (x ∷ a) [] zero k new there same = absurd cc
  set-same (x ∷ a) [] (suc at) zero new there same = absurd cc
  set-same (x ∷ a) [] (suc at) (suc k) new there same = set-same a [] at k new there same
  set-same (x ∷ a) (y ∷ b) zero zero new there same = refl
  set-same (x ∷ a) (y ∷ b) zero (suc k) new there same = same
  set-same (x ∷ a) (y ∷ b) (suc at) zero new there same = same
  set-same (x ∷ a) (y ∷ b) (suc at) (suc k) new there same = set-same a b at k new there same

  pub set-other : (a : List X) (at k : ℕ) (new : X) → (k ≡ at → ⊥) → slice_get (slice_set a at new) k ≡ slice_get a k
  set-other [] at k new other = refl
  set-other (x ∷ a) zero zero new other = absurd (other refl)
  set-other (x ∷ a) zero (suc k) new other = refl
  set-other (x ∷ a) (suc at) zero new other = refl
  set-other (x ∷ a) (suc at) (suc k) new other = set-other a at k new (λ same. other (ap suc same))

  module _ (region : Region) (addresses : ℕ → Type 0) (at : ℕ) (has : Has addresses at) (new : X) where
    pub set-outside : (a : List X) → StaysOutside region addresses a (slice_set a at new)
    set-outside a k not = set-other a at k new (λ same. not (subst addresses (sym same) has))

    pub set-agrees : (a b : List X) → IsSameWithin region addresses a b → IsSameWithin region addresses (slice_set a at new) (slice_set b at new)
    set-agrees a b same k within = set-same a b at k new (same at has) (same k within)

    pub set-leads : (a : List X) (IsWithin : X → Type 0) → EachLeads region addresses a IsWithin → IsWithin new → EachLeads region addresses (slice_set a at new) IsWithin
    set-leads a IsWithin leads fits k x within is = elim (set-at a at new k x is) [
      | inl same ↦ subst IsWithin (sym same) fits
      | inr there ↦ leads k x within there
    ]
