-- Text that is printed to an output.
use Rattle.std.specs.Prelude.{◌≡◌, ℕ, List, Option, false, if◌then◌else◌}
use Rattle.std.specs.Io.KnownBytes.{Appends}
use Rattle.program.specs.declared.output.Output.{Output}

-- If the output has not failed, it had not failed before, and exactly this text was written in between. The text is unspecified if the
-- contents of the writer are unknown.
abbrev pub Prints : {W : Type 0} → (contents : W → Option (List ℕ)) → (old new : Output W)
    → (text : List ℕ) → Type 0
Prints contents old new text = new.has_failed ≡ false
    → (old.has_failed ≡ false) × Appends (contents old.writer) (contents new.writer) text

-- The exit status after lines were printed to an output: 1 if the output has failed, and this one otherwise.
abbrev pub printed_status : {W : Type 0} → Output W → (status : ℕ) → ℕ
printed_status output status = if output.has_failed then 1 else status
