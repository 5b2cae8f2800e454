-- Names of a script, and files by name.
use Rattle.std.proofs.Common.{◌≡◌, ℕ, ◌+◌, ◌<◌, List, [], ◌∷◌, ◌++◌, Bool, true, false, cond, if◌then◌else◌, ap, get_or, length, refl, sym, take, ◌∙◌, string_bytes, String, arith}
use denote.Ref.{Bor}
use Rattle.std.specs.Prelude.{Option, Some, None, bytes_eq, option_map, is_some, Vec}
use Rattle.std.specs.HashMap.{HashMap, get_by, get_by_text, UpdatesBy}
use Rattle.std.proofs.lemmas.Grind.{common_steps}
use Rattle.std.proofs.lemmas.List.{map-append, take_more}
use Rattle.std.proofs.lemmas.Map.Text.{hash_map_updates_str, hash_map_updates_text}
use Rattle.std.proofs.lemmas.Slice.Eq.{bytes_eq-Decides}
use Rattle.std.specs.Option.{option_flatten, option_or}
use Rattle.std.specs.String.{string_eq}
use Rattle.std.specs.declared.alloc.Global.{Global}
use Rattle.meaning.specs.embedding.Names.{under}
use Rattle.meaning.specs.scripts.Commands.{Files, files_in}
use Rattle.meaning.specs.scripts.Runner.{naming}
use Rattle.scripts.specs.FileMaps.{files_kept, with_file}
use Rattle.scripts.specs.Runs.{files_view, named_in}

module _ {Z S : Type 0} (old new : HashMap (String Z) (Option ℕ) S) (name : List ℕ) (instance : Option ℕ) where
  flattened : (b : Bool) (before : Option (Option ℕ)) → option_flatten (cond b (Some instance) before) ≡ (if b then instance else option_flatten before)
  flattened true before = refl
  flattened false before = refl

  -- After a name is put into a map, it means the instance, and all other names mean what they meant.
  pub named-put : UpdatesBy string_eq (λ (k : String Z). bytes_eq name (string_bytes k)) old new (Some instance) → named_in new ≡ naming (named_in old) (Some name) instance
  named-put updates = λ j other. at other j
    where
      at : (other : List ℕ) → named_in new other ≡ naming (named_in old) (Some name) instance other
      at other = ap option_flatten (hash_map_updates_text name old new (Some instance) updates other) ∙ flattened (bytes_eq name other) (get_by_text old other)

-- ---- files

same_bytes : (xs ys : List ℕ) → bytes_eq xs ys ≡ true → xs ≡ ys
same_bytes xs ys same = grind (arith, common_steps, bytes_eq-Decides)

bytes_eq-sym : (xs ys : List ℕ) → bytes_eq xs ys ≡ bytes_eq ys xs
bytes_eq-sym xs ys = grind (arith, common_steps, bytes_eq-Decides)

or_none : (o : Option (List ℕ)) → o ≡ option_or o None
or_none None = refl
or_none (Some bytes) = refl

-- A file exists already.
module _ (files : Files) (name bytes : List ℕ) where
  kept-same-at : (filename : List ℕ) → is_some (files name) ≡ true → (b : Bool) → bytes_eq filename name ≡ b
      → files filename ≡ option_or (files filename) (if b then Some bytes else None)
  kept-same-at filename there false is = or_none (files filename)
  kept-same-at filename there true is = by (files filename) (rw (same_bytes filename name is) there)
    where
      by : (o : Option (List ℕ)) → is_some o ≡ true → o ≡ option_or o (Some bytes)
      by None there = absurd cc
      by (Some b) there = refl

  kept-same : true ≡ is_some (files name) → files ≡ with_file files name bytes
  kept-same there = λ j filename. kept-same-at filename (sym there) (bytes_eq filename name) refl j

is_some-read : (o : Option (Bor (List ℕ))) → is_some o ≡ is_some (option_map (λ (f : Bor (List ℕ)). f.now) o)
is_some-read None = refl
is_some-read (Some f) = refl

pub kept-there : {S : Type 0} (kept : HashMap (Bor (List ℕ)) (Bor (List ℕ)) S) (name bytes : List ℕ)
    → true ≡ is_some (get_by (λ (k : Bor (List ℕ)). bytes_eq name k.now) kept) → files_kept kept ≡ with_file (files_kept kept) name bytes
kept-there kept name bytes there = kept-same (files_kept kept) name bytes (there ∙ is_some-read (get_by (λ (k : Bor (List ℕ)). bytes_eq name k.now) kept))

module _ {S : Type 0} (old new : HashMap (Bor (List ℕ)) (Bor (List ℕ)) S) (name : List ℕ) (bytes : Bor (List ℕ)) where
  kept-new-at : (filename : List ℕ) → false ≡ is_some (get_by (λ (k : Bor (List ℕ)). bytes_eq name k.now) old)
      → get_by (λ (k : Bor (List ℕ)). bytes_eq filename k.now) new ≡ cond (bytes_eq name filename) (Some bytes) (get_by (λ (k : Bor (List ℕ)). bytes_eq filename k.now) old)
      → (b : Bool) → bytes_eq name filename ≡ b → files_kept new filename ≡ option_or (files_kept old filename) (if bytes_eq filename name then Some bytes.now else None)
  kept-new-at filename absent changed false is =
      ap (option_map (λ (f : Bor (List ℕ)). f.now))
      (changed ∙ ap (λ (b : Bool). cond b (Some bytes) (get_by (λ (k : Bor (List ℕ)). bytes_eq filename k.now) old)) is) ∙ or_none (files_kept old filename)
      ∙ ap (λ (b : Bool). option_or (files_kept old filename) (if b then Some bytes.now else None)) (sym (bytes_eq-sym filename name ∙ is))
  kept-new-at filename absent changed true is =
      let same = same_bytes name filename is in
      ap (option_map (λ (f : Bor (List ℕ)). f.now)) (changed ∙ ap (λ (b : Bool). cond b (Some bytes) (get_by (λ (k : Bor (List ℕ)). bytes_eq filename k.now) old)) is)
      ∙ by (get_by (λ (k : Bor (List ℕ)). bytes_eq filename k.now) old) (rw same at absent)
      ∙ ap (λ (b : Bool). option_or (files_kept old filename) (if b then Some bytes.now else None)) (sym (bytes_eq-sym filename name ∙ is))
    where
      by : (o : Option (Bor (List ℕ))) → false ≡ is_some o → Some bytes.now ≡ option_or (option_map (λ (f : Bor (List ℕ)). f.now) o) (Some bytes.now)
      by None absent = refl
      by (Some f) absent = absurd cc

  pub kept-new : false ≡ is_some (get_by (λ (k : Bor (List ℕ)). bytes_eq name k.now) old)
      → UpdatesBy (λ (x y : Bor (List ℕ)). bytes_eq x.now y.now) (λ (k : Bor (List ℕ)). bytes_eq name k.now) old new (Some bytes)
      → files_kept new ≡ with_file (files_kept old) name bytes.now
  kept-new absent updates = λ j filename.
      kept-new-at filename absent (hash_map_updates_str name old new (Some bytes) updates filename) (bytes_eq name filename) refl j

-- One more file after the others.
under-append : (files : List (List ℕ × List ℕ)) (name bytes filename : List ℕ)
    → option_or (under files filename) (if bytes_eq filename name then Some bytes else None) ≡ under (files ++ (name, bytes) ∷ []) filename
under-append [] name bytes filename = by (bytes_eq filename name)
  where
    by : (b : Bool) → (if b then Some bytes else None) ≡ cond b (Some bytes) None
    by true = refl
    by false = refl
under-append (f ∷ files) name bytes filename = by (bytes_eq filename f.0) (under-append files name bytes filename)
  where
    by : (b : Bool) → option_or (under files filename) (if bytes_eq filename name then Some bytes else None) ≡ under (files ++ (name, bytes) ∷ []) filename
        → option_or (cond b (Some f.1) (under files filename)) (if bytes_eq filename name then Some bytes else None) ≡ cond b (Some f.1) (under (files ++ (name, bytes) ∷ []) filename)
    by true rest = refl
    by false rest = rest

pub files-next : (files : List (String Global × Vec ℕ Global)) (k : ℕ) (f : String Global × Vec ℕ Global) → k < length files → f ≡ get_or files k f
    → with_file (files_in (files_view (take k files))) (string_bytes f.0) f.1.items ≡ files_in (files_view (take (k + 1) files))
files-next files k f inside is =
    (λ j filename. under-append (files_view (take k files)) (string_bytes f.0) f.1.items filename j)
    ∙ ap files_in (sym (ap files_view (take_more files k f inside ∙ ap (λ g. take k files ++ g ∷ []) (sym is)) ∙ map-append
    (λ (g : String Global × Vec ℕ Global). (string_bytes g.0, g.1.items)) (take k files) (f ∷ [])))
