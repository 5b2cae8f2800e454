-- Lists of JSON values, of commands and of values.
use Rattle.std.proofs.Common.{◌≡◌, ℕ, suc, ◌+◌, ◌<◌, ◌≤◌, List, [], ◌∷◌, ◌++◌, Bool, true, false, ◌&&◌, append_assoc, ap, drop, get_or, length, map, refl, sym, take, ◌∙◌}
use Rattle.std.specs.Prelude.{Option, Some, None, Result, Ok, Err, ◌||◌}
use Rattle.std.specs.List.{list_any}
use Rattle.std.proofs.lemmas.List.{append-nil, drop_more, map-append, take_more}
use Rattle.std.proofs.Math.ListN.{drop_of_length-le}
use Rattle.core_types.specs.declared.outcome.Val.{Val}
use Rattle.serde_json.specs.Data.{Data}
use Rattle.serde_json.specs.Find.{get, as_array}
use Rattle.serde_json.specs.View.{items_of}
use Rattle.meaning.specs.execution.Modules.{cons, map_all}
use Rattle.meaning.specs.scripts.Commands.{ScriptCommand, Files, command_file, filenames, is_there, missing_from, with_name}
use Rattle.meaning.specs.scripts.Runner.{same_value, same_values}
use Rattle.scripts.specs.Reading.{array_in, command_of, commands_in, data_in, has_left_out_in, is_left_out, value_of, values_in, with_command}

-- ---- arrays

pub data_in-items_of : (ds : List Data) → data_in (items_of ds) ≡ ds
data_in-items_of [] = refl
data_in-items_of (d ∷ ds) = ap (λ (rest : List Data). d ∷ rest) (data_in-items_of ds)

pub array_in-found : (key : List ℕ) (d field : Data) (ds : List Data) → Some field ≡ get key d → Some (items_of ds) ≡ as_array field → Some ds ≡ array_in key d
array_in-found key d field ds there items = rw (← there, ← items, data_in-items_of) refl

module _ {A : Type 0} (f : A → Data) where
  pub list_any-map : (test : Data → Bool) (xs : List A) → list_any test (map f xs) ≡ list_any (λ (x : A). test (f x)) xs
  list_any-map test [] = refl
  list_any-map test (x ∷ xs) = ap (λ (b : Bool). test (f x) || b) (list_any-map test xs)

  pub map_all-map : {B : Type 0} (g : Data → Option B) (xs : List A) → map_all g (map f xs) ≡ map_all (λ (x : A). g (f x)) xs
  map_all-map g [] = refl
  map_all-map g (x ∷ xs) = ap (cons (g (f x))) (map_all-map g xs)

  pub has_left_out_in-found : (key : List ℕ) (d : Data) (xs : List A) → Some (map f xs) ≡ array_in key d → list_any (λ (x : A). is_left_out (f x)) xs ≡ has_left_out_in key d
  has_left_out_in-found key d xs there = rw (← there) (sym (list_any-map is_left_out xs))

  pub values_in-found : (key : List ℕ) (d : Data) (xs : List A) (result : Option (List Val)) → Some (map f xs) ≡ array_in key d
      → map_all (λ (x : A). value_of (f x)) xs ≡ result → values_in key d ≡ result
  values_in-found key d xs result there all = rw (← there) (map_all-map value_of xs ∙ all)

-- ---- commands that are read

-- Commands before the existing ones, if there are any.
abbrev prepended : List ScriptCommand → Result (List ScriptCommand) ℕ → Result (List ScriptCommand) ℕ
prepended cs (Ok rest) = Ok (cs ++ rest)
prepended cs (Err index) = Err index

prepended-one : (cs : List ScriptCommand) (c : ScriptCommand) (index : ℕ) (rest : Result (List ScriptCommand) ℕ)
    → prepended cs (with_command index (Some c) rest) ≡ prepended (cs ++ c ∷ []) rest
prepended-one cs c index (Ok rest) = ap (λ (all : List ScriptCommand). Ok all) (sym (append_assoc cs (c ∷ []) rest))
prepended-one cs c index (Err later) = refl

module _ {A : Type 0} (f : A → Data) (xs : List A) where
  -- The commands so far, before those of the rest.
  abbrev pub CommandsSoFar : ℕ → List ScriptCommand → Type 0
  CommandsSoFar k cs = commands_in 0 (map f xs) ≡ prepended cs (commands_in k (map f (drop k xs)))

  pub commands-next : (k : ℕ) (cs : List ScriptCommand) (x : A) (c : ScriptCommand) → k < length xs → CommandsSoFar k cs → command_of (f (get_or xs k x)) ≡ Some c
      → CommandsSoFar (k + 1) (cs ++ c ∷ [])
  commands-next k cs x c inside so_far has =
      so_far ∙ ap (λ (rest : List A). prepended cs (commands_in k (map f rest))) (drop_more xs k x inside)
      ∙ ap (λ (o : Option ScriptCommand). prepended cs (with_command k o (commands_in (k + 1) (map f (drop (k + 1) xs))))) has
      ∙ prepended-one cs c k (commands_in (k + 1) (map f (drop (k + 1) xs)))

  pub commands-fault : (k : ℕ) (cs : List ScriptCommand) (x : A) → k < length xs → CommandsSoFar k cs → command_of (f (get_or xs k x)) ≡ None
      → commands_in 0 (map f xs) ≡ Err k
  commands-fault k cs x inside so_far none =
      so_far ∙ ap (λ (rest : List A). prepended cs (commands_in k (map f rest))) (drop_more xs k x inside)
      ∙ ap (λ (o : Option ScriptCommand). prepended cs (with_command k o (commands_in (k + 1) (map f (drop (k + 1) xs))))) none

  pub commands-end : (k : ℕ) (cs : List ScriptCommand) → length xs ≤ k → CommandsSoFar k cs → commands_in 0 (map f xs) ≡ Ok cs
  commands-end k cs past so_far =
      so_far ∙ ap (λ (rest : List A). prepended cs (commands_in k (map f rest))) (drop_of_length-le xs past)
      ∙ ap (λ (all : List ScriptCommand). Ok all) (append-nil cs)

-- ---- files

pub filenames-append : (cs : List ScriptCommand) (c : ScriptCommand) → filenames (cs ++ c ∷ []) ≡ filenames cs ++ with_name (command_file c) []
filenames-append [] c = refl
filenames-append (first ∷ cs) c = by (command_file first) (filenames-append cs c)
  where
    by : (o : Option (List ℕ)) → filenames (cs ++ c ∷ []) ≡ filenames cs ++ with_name (command_file c) []
        → with_name o (filenames (cs ++ c ∷ [])) ≡ with_name o (filenames cs) ++ with_name (command_file c) []
    by None rest = rest
    by (Some name) rest = ap (λ (names : List (List ℕ)). name ∷ names) rest

module _ {A : Type 0} (f : A → ScriptCommand) (xs : List A) where
  pub filenames-next : (k : ℕ) (x : A) (names : List (List ℕ)) → k < length xs → names ≡ filenames (map f (take k xs))
      → names ++ with_name (command_file (f (get_or xs k x))) [] ≡ filenames (map f (take (k + 1) xs))
  filenames-next k x names inside so_far =
      ap (λ (before : List (List ℕ)). before ++ with_name (command_file (f (get_or xs k x))) []) so_far
      ∙ sym (filenames-append (map f (take k xs)) (f (get_or xs k x)))
      ∙ sym (ap filenames (ap (map f) (take_more xs k x inside) ∙ map-append f (take k xs) (get_or xs k x ∷ [])))

  module _ (files : Files) where
    -- No file is missing so far.
    abbrev pub NoneMissing : ℕ → Type 0
    NoneMissing k = missing_from files 0 (map f xs) ≡ missing_from files k (map f (drop k xs))

    pub missing-next : (k : ℕ) (x : A) → k < length xs → NoneMissing k → is_there files (command_file (f (get_or xs k x))) ≡ true → NoneMissing (k + 1)
    missing-next k x inside so_far there =
        so_far ∙ ap (λ (rest : List A). missing_from files k (map f rest)) (drop_more xs k x inside) ∙ rw there refl

    pub missing-here : (k : ℕ) (x : A) → k < length xs → NoneMissing k → is_there files (command_file (f (get_or xs k x))) ≡ false
        → missing_from files 0 (map f xs) ≡ Some k
    missing-here k x inside so_far missing =
        so_far ∙ ap (λ (rest : List A). missing_from files k (map f rest)) (drop_more xs k x inside) ∙ rw missing refl

    pub missing-end : (k : ℕ) → length xs ≤ k → NoneMissing k → missing_from files 0 (map f xs) ≡ None
    missing-end k past so_far = so_far ∙ ap (λ (rest : List A). missing_from files k (map f rest)) (drop_of_length-le xs past)

-- ---- values

pub same_values-lengths : (vs ws : List Val) → (length vs ≡ length ws → ⊥) → same_values vs ws ≡ false
same_values-lengths [] [] differ = absurd (differ refl)
same_values-lengths [] (w ∷ ws) differ = refl
same_values-lengths (v ∷ vs) [] differ = refl
same_values-lengths (v ∷ vs) (w ∷ ws) differ = by (same_value v w) (same_values-lengths vs ws (λ same. differ (ap suc same)))
  where
    by : (b : Bool) → same_values vs ws ≡ false → (b && same_values vs ws) ≡ false
    by true rest = rest
    by false rest = refl

pub same_values-drop : (vs ws : List Val) (k : ℕ) (v w : Val) → k < length vs → k < length ws
    → same_values (drop k vs) (drop k ws) ≡ (same_value (get_or vs k v) (get_or ws k w) && same_values (drop (k + 1) vs) (drop (k + 1) ws))
same_values-drop vs ws k v w inside inside' = rw (drop_more vs k v inside, drop_more ws k w inside') refl

pub same_values-end : (vs ws : List Val) (k : ℕ) → length vs ≤ k → length ws ≤ k → same_values (drop k vs) (drop k ws) ≡ true
same_values-end vs ws k past past' = rw (drop_of_length-le vs past, drop_of_length-le ws past') refl
