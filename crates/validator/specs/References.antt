-- Which functions are marked as references of the module: named outside of bodies and the start.
use Rattle.std.specs.Prelude.{Bool, List, Some, [], length, slice_get, slice_set, true, ℕ, ◌<◌, ◌∷◌, ◌≡◌}
use Rattle.core_types.specs.declared.module.Module.{Module}
use Rattle.meaning.specs.validation.Instructions.{IsNamed}
use Rattle.meaning.specs.validation.Modules.{function_indices, named_functions}

-- The marks after those of these functions are set, as far as they exist.
abbrev pub set_marks : List Bool → List ℕ → List Bool
set_marks marks [] = marks
set_marks marks (x ∷ xs) = set_marks (slice_set marks x true) xs

-- Each function has a mark, which is set if the module names it outside of bodies and the start.
pub record HasMarks (m : Module) (marks : List Bool) : Type 0 where
  pub one_for_each : length marks ≡ length (function_indices m)
  pub named : (x : ℕ) → slice_get marks x ≡ Some true → IsNamed x (named_functions m)
  pub set : (x : ℕ) → x < length (function_indices m) → IsNamed x (named_functions m)
      → slice_get marks x ≡ Some true
