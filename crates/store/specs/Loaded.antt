-- The contents of a loaded module.
use Rattle.core_types.specs.declared.module.Module.{Module}
use Rattle.sidetable.specs.declared.flat_module.FlatModule.{FlatModule}

-- What is loaded: the module, and its flat code.
pub record LoadedContents : Type 0 where
  pub source : Module
  pub flat : FlatModule
