-- Files that are kept by name.
use Rattle.std.specs.Prelude.{ℕ, List, Some, None, option_map, bytes_eq, if◌then◌else◌}
use Rattle.std.specs.Option.{option_or}
use denote.Ref.{Bor}
use Rattle.indexmap.specs.IndexMap.{IndexMap, get_by}
use Rattle.meaning.specs.scripts.Commands.{Files}

-- The files, followed by this one.
abbrev pub with_file : Files → (name bytes : List ℕ) → Files
with_file files name bytes filename =
    option_or (files filename) (if bytes_eq filename name then Some bytes else None)

abbrev pub files_kept : {S : Type 0} → IndexMap (Bor (List ℕ)) (Bor (List ℕ)) S → Files
files_kept files filename = option_map (λ (f : Bor (List ℕ)). f.now)
    (get_by (λ (k : Bor (List ℕ)). bytes_eq filename k.now) files)
