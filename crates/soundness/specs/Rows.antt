-- Worked rows: a valid store with a function that adds, and calls of it; a module that can be linked.
use Rattle.std.specs.Prelude.{ℕ, List, [], ◌∷◌, None}
use Rattle.core_types.specs.declared.module.DataMode.TheVariants.{Passive}
use Rattle.core_types.specs.declared.module.Module.{Module}
use Rattle.core_types.specs.declared.outcome.Val.{Val}
use Rattle.core_types.specs.declared.types.ValType.TheVariants as ty
use Rattle.meaning.specs.execution.Configurations.{Invoking}
use Rattle.meaning.specs.execution.Rows.{adder, instance_of_two, nothing}
use Rattle.meaning.specs.execution.Store.{Store}
use Rattle.soundness.specs.Configurations.{ConfigurationHasType}
use Rattle.soundness.specs.Places.{outermost}

abbrev pub adding : Store
adding = instance_of_two adder nothing

-- A call of the function that adds, with these arguments, leads to one i32.
abbrev pub AddsTyped : (arguments : List Val) → Type 0
AddsTyped arguments = ConfigurationHasType adding outermost (Invoking arguments 0) (ty.I32 ∷ [])

-- The same store, in which a memory may have one page.
abbrev pub adding_with_a_page : Store
adding_with_a_page = record adding { pages = 1 }

-- A module with a memory of one page and a passive data segment of these bytes.
abbrev pub storing : (bytes : List ℕ) → Module
storing bytes = record {
  types = [];
  imports = [];
  funcs = [];
  tables = [];
  memories = record { min = 1; max = None } ∷ [];
  globals = [];
  exports = [];
  start = None;
  elements = [];
  datas = record { bytes = bytes; mode = Passive } ∷ [];
}
