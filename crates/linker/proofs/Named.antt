-- Look-ups and changes of maps by name, in the terms of the definitions.
use Rattle.std.proofs.Common.{◌≡◌, ℕ, Bool, true, false, cond, if◌then◌else◌, List, [], ◌∷◌, Option, Some, None, is_some, unwrap_or, refl, sym, ap, ◌∙◌, string_bytes}
use Rattle.std.proofs.lemmas.Option.{slice_get-map}
use Rattle.std.specs.Prelude.{String, bytes_eq, option_map, slice_get}
use Rattle.std.specs.Map.{lookup, set_value}
use Rattle.std.specs.String.{string_eq}
use Rattle.indexmap.specs.IndexMap.{IndexMap, insert_entry}
use Rattle.meaning.specs.embedding.Names.{under, put_under}
use Rattle.linker.specs.Contents.{named, numbers_in, maps_in}

abbrev is_named : {Z : Type 0} → List ℕ → String Z → Bool
is_named name k = bytes_eq name (string_bytes k)

module _ {Z V W : Type 0} (f : V → W) where
  -- A new item, or another item in place of one.
  pub named-insert_entry : (entries : List (String Z × V)) (key : String Z) (item : V) → named f (insert_entry string_eq entries key item) ≡ put_under (named f entries) (string_bytes key) (f item)
  named-insert_entry [] key item = refl
  named-insert_entry (e ∷ es) key item =
      elim (string_eq key e.0) as (λ (b : Bool). named f (if b then (e.0, item) ∷ es else e ∷ insert_entry string_eq es key item)
      ≡ (if b then (string_bytes e.0, f item) ∷ named f es else (string_bytes e.0, f e.1) ∷ put_under (named f es) (string_bytes key) (f item)))
      [ true ↦ refl | false ↦ ap (λ (rest : List (List ℕ × W)). (string_bytes e.0, f e.1) ∷ rest) (named-insert_entry es key item) ]

  module _ (name : List ℕ) where
    -- The item under a name.
    pub under-named : (entries : List (String Z × V)) → under (named f entries) name ≡ option_map f (lookup (is_named name) entries)
    under-named [] = refl
    under-named (e ∷ es) =
        elim (is_named name e.0) as (λ (b : Bool). cond b (Some (f e.1)) (under (named f es) name) ≡ option_map f (cond b (Some e.1) (lookup (is_named name) es)))
        [ true ↦ refl | false ↦ under-named es ]

    -- Another item in place of one that exists.
    pub named-set_value : (entries : List (String Z × V)) (old item : V) → lookup (is_named name) entries ≡ Some old
        → named f (set_value (is_named name) entries item) ≡ put_under (named f entries) name (f item)
    named-set_value [] old item there = absurd cc
    named-set_value (e ∷ es) old item there = by (is_named name e.0) there (named-set_value es old item)
      where
        by : (b : Bool) → cond b (Some e.1) (lookup (is_named name) es) ≡ Some old
            → (lookup (is_named name) es ≡ Some old → named f (set_value (is_named name) es item) ≡ put_under (named f es) name (f item))
            → named f (cond b ((e.0, item) ∷ es) (e ∷ set_value (is_named name) es item))
            ≡ (if b then (string_bytes e.0, f item) ∷ named f es else (string_bytes e.0, f e.1) ∷ put_under (named f es) name (f item))
        by true h rest = refl
        by false h rest = ap (λ (others : List (List ℕ × W)). (string_bytes e.0, f e.1) ∷ others) (rest h)

    -- Another item that means the same.
    pub named-set_same : (entries : List (String Z × V)) (old item : V) → lookup (is_named name) entries ≡ Some old → f item ≡ f old
        → named f (set_value (is_named name) entries item) ≡ named f entries
    named-set_same [] old item there same = refl
    named-set_same (e ∷ es) old item there same = by (is_named name e.0) there (λ h. named-set_same es old item h same)
      where
        by : (b : Bool) → cond b (Some e.1) (lookup (is_named name) es) ≡ Some old → (lookup (is_named name) es ≡ Some old → named f (set_value (is_named name) es item) ≡ named f es)
            → named f (cond b ((e.0, item) ∷ es) (e ∷ set_value (is_named name) es item)) ≡ named f (e ∷ es)
        by true h rest = let first : e.1 ≡ old = cc in rw (same, ← first) refl
        by false h rest = ap (λ (others : List (List ℕ × W)). (string_bytes e.0, f e.1) ∷ others) (rest h)

    -- There is an item under a name in both or in neither.
    pub is_some-under : (entries : List (String Z × V)) → is_some (lookup (is_named name) entries) ≡ is_some (under (named f entries) name)
    is_some-under entries = by (lookup (is_named name) entries) ∙ sym (ap is_some (under-named entries))
      where
        by : (o : Option V) → is_some o ≡ is_some (option_map f o)
        by None = refl
        by (Some item) = refl

-- The number under a name.
pub number-under : {Z S : Type 0} (numbers : IndexMap (String Z) ℕ S) (name : List ℕ) → lookup (is_named name) numbers.entries ≡ under (numbers_in numbers) name
number-under numbers name = by (lookup (is_named name) numbers.entries) ∙ sym (under-named (λ (n : ℕ). n) name numbers.entries)
  where
    by : (o : Option ℕ) → o ≡ option_map (λ (n : ℕ). n) o
    by None = refl
    by (Some n) = refl

-- The name of the number at an index.
pub name-at : {Z S : Type 0} (numbers : IndexMap (String Z) ℕ S) (index : ℕ)
    → option_map (λ (e : String Z × ℕ). string_bytes e.0) (slice_get numbers.entries index) ≡ option_map (λ (host : List ℕ × ℕ). host.0) (slice_get (numbers_in numbers) index)
name-at {Z} numbers index = by (slice_get numbers.entries index) ∙ sym
    (ap (option_map (λ (host : List ℕ × ℕ). host.0)) (slice_get-map (λ (e : String Z × ℕ). (string_bytes e.0, e.1)) numbers.entries index))
  where
    by : (o : Option (String Z × ℕ)) → option_map (λ (e : String Z × ℕ). string_bytes e.0) o
        ≡ option_map (λ (host : List ℕ × ℕ). host.0) (option_map (λ (e : String Z × ℕ). (string_bytes e.0, e.1)) o)
    by None = refl
    by (Some e) = refl

-- ---- maps of maps

module _ {Z S : Type 0} (maps : IndexMap (String Z) (IndexMap (String Z) ℕ S) S) (first : List ℕ) where
  pub no_numbers : None ≡ lookup (is_named first) maps.entries → [] ≡ unwrap_or (under (maps_in maps) first) []
  no_numbers none = ap (λ (o : Option (IndexMap (String Z) ℕ S)). unwrap_or (option_map numbers_in o) []) none ∙ sym
      (ap (λ (o : Option (List (List ℕ × ℕ))). unwrap_or o []) (under-named numbers_in first maps.entries))

  module _ (numbers : IndexMap (String Z) ℕ S) (there : Some numbers ≡ lookup (is_named first) maps.entries) where
    pub numbers-there : numbers_in numbers ≡ unwrap_or (under (maps_in maps) first) []
    numbers-there = ap (λ (o : Option (IndexMap (String Z) ℕ S)). unwrap_or (option_map numbers_in o) []) there ∙ sym
        (ap (λ (o : Option (List (List ℕ × ℕ))). unwrap_or o []) (under-named numbers_in first maps.entries))

    -- The number under both names.
    pub number-there : (second : List ℕ) → lookup (is_named second) numbers.entries ≡ under (unwrap_or (under (maps_in maps) first) []) second
    number-there second = number-under numbers second ∙ ap (λ (items : List (List ℕ × ℕ)). under items second) numbers-there
