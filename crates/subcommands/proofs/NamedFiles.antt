-- Files that a script names.
use Rattle.std.proofs.Common.{ℕ, List, [], ◌∷◌, ◌++◌}
use Rattle.std.specs.Prelude.{String, Vec, string_bytes}
use Rattle.std.specs.declared.alloc.Global.{Global}
use Rattle.std.specs.List.{All}
use Rattle.std.proofs.lemmas.List.{map-append}
use Rattle.std.proofs.lemmas.List.Elements.{All-append, All-replicate}
use Rattle.scripts.specs.Runs.{files_view}

-- One more file is read.
pub file-more : (P : List ℕ × List ℕ → Type 0) (files : List (String Global × Vec ℕ Global)) (name : String Global) (bytes : Vec ℕ Global)
    → All P (files_view files) → P (string_bytes name, bytes.items) → All P (files_view (files ++ (name, bytes) ∷ []))
file-more P files name bytes all one =
    rw (map-append {B = List ℕ × List ℕ} (λ (f : String Global × Vec ℕ Global). (string_bytes f.0, f.1.items)) files ((name, bytes) ∷ []))
    (All-append P (files_view files) ((string_bytes name, bytes.items) ∷ []) all (All-replicate P 1 (string_bytes name, bytes.items) one))
