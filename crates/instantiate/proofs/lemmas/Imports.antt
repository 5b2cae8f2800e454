-- What is given for an import.
use Rattle.std.proofs.Common.{◌≡◌, ◌↔◌, ℕ, zero, suc, List, [], ◌∷◌, Bool, IsTrue, slice_get, subst, sym, take}
use Rattle.std.proofs.lemmas.Option.{same_Some}
use Rattle.std.specs.Prelude.{Option, Some, None}
use Rattle.core_types.specs.declared.module.Import.{Import}
use Rattle.core_types.specs.declared.module.Module.{Module}
use Rattle.core_types.specs.declared.outcome.Extern.{Extern}
use Rattle.core_types.specs.declared.types.ExternType.{ExternType}
use Rattle.meaning.specs.validation.Matching.{Matches}
use Rattle.meaning.specs.execution.Modules.{AreGiven, IsGiven, import_type}
use Rattle.meaning.specs.execution.Store.{Store, extern_type}

module _ (store : Store) (e : Extern) (wanted : Option ExternType) where
  -- The value exists, and the import requires a type: the two must match.
  pub is_given-by : (r : Bool) (given ty : ExternType) → extern_type store e ≡ Some given → wanted ≡ Some ty → (IsTrue r ↔ Matches given ty) → IsTrue r ↔ IsGiven store e wanted
  is_given-by r given ty there asked match = (
    λ yes. (given, ty, there, asked, match.0 yes),
    λ (w : IsGiven store e wanted).
        let same_given : w.0 ≡ given = cc in
        let same_type : w.1 ≡ ty = cc in
        match.1 (subst (λ (t : ExternType). Matches given t) same_type (subst (λ (g : ExternType). Matches g w.1) same_given w.4)),
  )

  -- The import requires nothing.
  pub not_given-unasked : wanted ≡ None → IsGiven store e wanted → ⊥
  not_given-unasked unasked w = absurd cc

-- One more import is given what it requires.
pub given-next : (store : Store) (m : Module) (imports : List Import) (externs : List Extern) (k : ℕ) (i : Import) (e : Extern) → slice_get imports k
    ≡ Some i → slice_get externs k ≡ Some e → IsGiven store e (import_type m i.desc)
    → AreGiven store m (take k imports) externs → AreGiven store m (take (suc k) imports) externs
given-next store m [] externs k i e there given is before = absurd cc
given-next store m (j ∷ imports) [] k i e there given is before = absurd cc
given-next store m (j ∷ imports) (f ∷ externs) zero i e there given is before =
    let same : i ≡ j = sym (same_Some j i there) in
    let one : e ≡ f = sym (same_Some f e given) in
    (subst (λ (x : Extern). IsGiven store x (import_type m j.desc)) one (subst (λ (w : Import). IsGiven store e (import_type m w.desc)) same is), tt)
given-next store m (j ∷ imports) (f ∷ externs) (suc k) i e there given is before = (before.0, given-next store m imports externs k i e there given is before.1)
