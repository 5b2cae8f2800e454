-- Why bytes are refused.
use Rattle.std.proofs.Common.{◌≡◌, ◌⊎◌, inl, inr, ℕ, List, [], ◌∷◌, ◌++◌, ap, refl}
use Rattle.std.proofs.lemmas.Option.{same_Some}
use Rattle.std.specs.Prelude.{Option, Some, None}
use Rattle.core_types.specs.declared.module.Module.{Module}
use Rattle.meaning.specs.embedding.Machine.{IsDecoded}
use Rattle.meaning.specs.execution.Modules.{cons, map_all}
use Rattle.meaning.specs.validation.Modules.{IsValid}
use Rattle.binary.specs.Errors.{IsNoModule, OnRefused}
use Rattle.binary.specs.declared.errors.DecodeError.{DecodeError}
use Rattle.binary.specs.declared.errors.DecodeError.TheVariants as decode
use Rattle.validator.specs.declared.errors.ValidateError.{ValidateError}
use Rattle.validator.specs.declared.errors.ValidateError.TheVariants as validate
use Rattle.embed.specs.Causes.{RefusesBytes, malformed, unsupported, limit, invalid, no_memory, decode_refusal, validate_refusal}

no_decoded : (bytes : List ℕ) → IsNoModule bytes → (m : Module) → IsDecoded bytes m → ⊥
no_decoded bytes none m d = none m d.spelt d.small

pub decode-refuses : (bytes : List ℕ) (error : DecodeError) → OnRefused error (IsNoModule bytes) → RefusesBytes bytes (decode_refusal error)
decode-refuses bytes (decode.Malformed offset) none = malformed offset (no_decoded bytes none) refl
decode-refuses bytes (decode.Unsupported offset) none = unsupported offset (no_decoded bytes none) refl
decode-refuses bytes decode.Limit none = limit (no_decoded bytes none) refl
decode-refuses bytes decode.OutOfMemory none = no_memory refl

pub validate-refuses : (bytes : List ℕ) (m : Module) (error : ValidateError) → IsDecoded bytes m → (error ≡ validate.OutOfMemory) ⊎ (IsValid m → ⊥) → RefusesBytes bytes (validate_refusal error)
validate-refuses bytes m validate.OutOfMemory decoded cause = no_memory refl
validate-refuses bytes m (validate.Invalid place) decoded (inl is) = absurd cc
validate-refuses bytes m (validate.Invalid place) decoded (inr not_valid) = invalid place m decoded not_valid refl

-- ---- imports

module _ {A B : Type 0} (f : A → Option B) (x : A) (y : B) (has : f x ≡ Some y) where
  -- The values of some items, and of one more.
  pub map_all-append : (xs : List A) (ys : List B) → map_all f xs ≡ Some ys → map_all f (xs ++ x ∷ []) ≡ Some (ys ++ y ∷ [])
  map_all-append [] ys all = let none : [] ≡ ys = same_Some [] ys all in rw (← none, has) refl
  map_all-append (z ∷ zs) ys all = by-first (f z) (map_all f zs) (λ ws is. map_all-append zs ws is) all
    where
      by-first : (first : Option B) (others : Option (List B)) → ((ws : List B) → others ≡ Some ws → map_all f (zs ++ x ∷ []) ≡ Some (ws ++ y ∷ []))
          → cons first others ≡ Some ys → cons first (map_all f (zs ++ x ∷ [])) ≡ Some (ys ++ y ∷ [])
      by-first None others rest is = absurd cc
      by-first (Some w) None rest is = absurd cc
      by-first (Some w) (Some ws) rest is = let same : w ∷ ws ≡ ys = same_Some (w ∷ ws) ys is in rw (rest ws refl) (ap (λ (all : List B). Some (all ++ y ∷ [])) same)
