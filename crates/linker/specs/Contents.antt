-- The contents of maps by name, in the terms of the definitions.
use Rattle.std.specs.Prelude.{ℕ, List, String, map, string_bytes}
use Rattle.indexmap.specs.IndexMap.{IndexMap}
use Rattle.meaning.specs.embedding.Names.{NamesContents}

-- The items, each under the bytes of its name.
abbrev pub named : {Z V W : Type 0} → (V → W) → List (String Z × V) → List (List ℕ × W)
named f entries = map (λ e. (string_bytes e.0, f e.1)) entries

module _ {Z S : Type 0} where
  -- The numbers under names.
  abbrev pub numbers_in : IndexMap (String Z) ℕ S → List (List ℕ × ℕ)
  numbers_in m = named (λ n. n) m.entries

  -- The numbers under two names.
  abbrev pub maps_in : IndexMap (String Z) (IndexMap (String Z) ℕ S) S
      → List (List ℕ × List (List ℕ × ℕ))
  maps_in m = named numbers_in m.entries

  -- The names that are kept.
  abbrev pub names_of : IndexMap (String Z) (IndexMap (String Z) ℕ S) S → IndexMap (String Z) ℕ S
      → NamesContents
  names_of hosts registered = record { hosts = maps_in hosts; registered = numbers_in registered }
