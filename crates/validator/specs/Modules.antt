-- The rules of a module in groups, as they are checked.
use Rattle.std.specs.Prelude.{ℕ, ◌<◌, length, List, All, ◌≤◌}
use Rattle.core_types.specs.declared.module.DataSegment.{DataSegment}
use Rattle.core_types.specs.declared.module.Export.{Export}
use Rattle.core_types.specs.declared.module.Func.{Func}
use Rattle.core_types.specs.declared.module.Global.{Global}
use Rattle.core_types.specs.declared.module.Import.{Import}
use Rattle.core_types.specs.declared.module.ImportDesc.TheVariants as import
use Rattle.core_types.specs.declared.module.ImportDesc.{ImportDesc}
use Rattle.core_types.specs.declared.module.Module.{Module}
use Rattle.core_types.specs.declared.types.Limits.{Limits}
use Rattle.core_types.specs.declared.types.TableType.{TableType}
use Rattle.export_names.specs.Order.{IsNameOrder}
use Rattle.meaning.specs.validation.Modules.{constant_context, Exists, HasDataMode, IsConstantExpression, IsValid, IsValidElement, IsValidFunction, IsValidStart, memories_of, NamesDiffer}
use Rattle.meaning.specs.validation.Types.{AreFewPages, AreOrdered}

abbrev pub IsValidMemory : Limits → Type 0
IsValidMemory limits = AreOrdered limits × AreFewPages limits

-- An import is valid in a module with this number of types.
abbrev pub IsValidImport : ℕ → ImportDesc → Type 0
IsValidImport types (import.Func x) = x < types
IsValidImport types (import.Table t) = AreOrdered t.limits
IsValidImport types (import.Memory limits) = IsValidMemory limits
IsValidImport types (import.Global g) = Unit {0}

pub record HasValidDeclarations (m : Module) : Type 0 where
  pub imports : All (λ (i : Import). IsValidImport (length m.types) i.desc) m.imports
  pub functions : All (λ (f : Func). f.ty < length m.types) m.funcs
  pub tables : All (λ (t : TableType). AreOrdered t.limits) m.tables
  pub memories : All IsValidMemory m.memories

-- The parts of the module are valid, given that the types of the functions exist.
pub record HasValidParts (m : Module) : Type 0 where
  pub one_memory : length (memories_of m) ≤ 1
  pub globals : All (λ (g : Global). IsConstantExpression (constant_context m) g.init g.ty.value)
      m.globals
  pub elements : All (IsValidElement m) m.elements
  pub datas : All (λ (d : DataSegment). HasDataMode m d.mode) m.datas
  pub start : IsValidStart m m.start
  pub exports : All (λ (e : Export). Exists m e.desc) m.exports
  pub names_differ : NamesDiffer m.exports

-- The module is valid, and its exports' names are in this order.
pub record IsNamedValid (m : Module) (order : List ℕ) : Type 0 where
  pub valid : IsValid m
  pub names : IsNameOrder m.exports order

-- Each function of the module is valid.
abbrev pub HasValidBodies : Module → Type 0
HasValidBodies m = All (IsValidFunction m) m.funcs
