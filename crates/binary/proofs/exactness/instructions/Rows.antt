-- Rows of opcodes that are next to each other: an instruction is found in a row by its opcode.
use Rattle.std.proofs.Common.{List, ap, arith, leb, refl, ℕ, ◌-◌, ◌∙◌, ◌≡◌, ◌≤◌}
use Rattle.std.specs.Prelude.{Option, Some, slice_get}
use Rattle.std.proofs.lemmas.Bool.{le-leb, leb-true}
use Rattle.meaning.specs.binary.Instructions.{IsOpcode}
use Rattle.core_types.specs.reading.Conventions.{◌>>=◌}
use Rattle.core_types.specs.reading.Instructions.{in_row}
use Rattle.binary.proofs.exactness.Readers.{bind_some, if_found}

pub in_row_sound : {X : Type 0} (first : ℕ) (row : List (Option X)) (code : ℕ) (x : X)
    → in_row first row code ≡ Some x → IsOpcode first row x code
in_row_sound {X} first row code x e =
    let from = if_found (leb first code) (slice_get row (code - first) >>= λ (x : Option X). x) x e in
    let item = bind_some (slice_get row (code - first)) (λ (x : Option X). x) x from.1 in
    let low : first ≤ code = leb-true _ _ from.0 in
    (code - first, item.1 ∙ ap Some item.2, omega arith)

pub in_row_complete : {X : Type 0} (first : ℕ) (row : List (Option X)) (code : ℕ) (x : X)
    → IsOpcode first row x code → in_row first row code ≡ Some x
in_row_complete first row code x (index, e, is) =
    let back : code - first ≡ index = omega arith in
    rw (le-leb first code (omega arith), back, e) refl
