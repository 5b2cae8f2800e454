-- Types are the same exactly if they are equal.
use Rattle.std.proofs.Common.{◌≡◌, ◌↔◌, List, [], ◌∷◌, refl, ap, ◌∙◌}
use Rattle.std.specs.Prelude.{Bool, true, false, IsTrue}
use Rattle.std.proofs.lemmas.Bool.{and_from, and_parts}
use Rattle.core_types.specs.declared.types.FuncType.{FuncType}
use Rattle.core_types.specs.declared.types.ValType.{ValType}
use Rattle.core_types.specs.declared.types.ValType.TheVariants.{I32, I64, FuncRef, ExternRef}
use Rattle.meaning.specs.validation.Types.{are_same_types, function_type, is_same_function_type, is_same_type}

same-type : (t u : ValType) → is_same_type t u ≡ true → t ≡ u
same-type I32 I32 h = refl
same-type I64 I64 h = refl
same-type FuncRef FuncRef h = refl
same-type ExternRef ExternRef h = refl
same-type t u h = absurd (let none = h in cc)

same-types : (ts us : List ValType) → are_same_types ts us ≡ true → ts ≡ us
same-types [] [] h = refl
same-types [] (u ∷ us) h = absurd (let none = h in cc)
same-types (t ∷ ts) [] h = absurd (let none = h in cc)
same-types (t ∷ ts) (u ∷ us) h =
    let parts = and_parts (is_same_type t u) (are_same_types ts us) h in
    let first = same-type t u parts.0 in
    let others = same-types ts us parts.1 in
    cc

type-same : (t : ValType) → is_same_type t t ≡ true
type-same I32 = refl
type-same I64 = refl
type-same FuncRef = refl
type-same ExternRef = refl

types-same : (ts : List ValType) → are_same_types ts ts ≡ true
types-same [] = refl
types-same (t ∷ ts) = and_from (is_same_type t t) (are_same_types ts ts) (type-same t) (types-same ts)

pub same-function-type : (t u : FuncType) → is_same_function_type t u ≡ true → t ≡ u
same-function-type t u h =
    let parts = and_parts (are_same_types t.params u.params) (are_same_types t.results u.results) h in
    let params = same-types t.params u.params parts.0 in
    let results = same-types t.results u.results parts.1 in
    ap (λ (params : List ValType). function_type params t.results) params ∙ ap (function_type u.params) results

pub function-type-same : (t : FuncType) → is_same_function_type t t ≡ true
function-type-same t = and_from (are_same_types t.params t.params) (are_same_types t.results t.results) (types-same t.params) (types-same t.results)

-- The test of whether two lists of types are equal decides whether they are the same.
pub types_decided : (b : Bool) (ts us : List ValType) → (IsTrue b ↔ (ts ≡ us)) → are_same_types ts us ≡ b
types_decided true ts us h = rw (h.0 refl) (types-same us)
types_decided false ts us h = go (are_same_types ts us) refl
  where
    go : (d : Bool) → are_same_types ts us ≡ d → d ≡ false
    go true e = absurd (let no = h.1 (same-types ts us e) in cc)
    go false e = refl

-- The test of whether two types of functions are equal decides whether they are the same.
pub function_type_decided : (b : Bool) (t u : FuncType) → (IsTrue b ↔ (t ≡ u)) → is_same_function_type t u ≡ b
function_type_decided true t u h = rw (h.0 refl) (function-type-same u)
function_type_decided false t u h = go (is_same_function_type t u) refl
  where
    go : (d : Bool) → is_same_function_type t u ≡ d → d ≡ false
    go true e = absurd (let no = h.1 (same-function-type t u e) in cc)
    go false e = refl
