-- Constant expressions in an instance, of which only the addresses are known.
use Rattle.std.specs.Prelude.{List, Option, reverse}
use Rattle.core_types.specs.declared.module.Module.{Module}
use Rattle.core_types.specs.declared.op.Op.{Op}
use Rattle.core_types.specs.declared.outcome.Val.{Val}
use Rattle.meaning.specs.execution.Modules.{constant_operands}
use Rattle.meaning.specs.execution.Store.{ModuleInstance}
use Rattle.store.specs.Contents.{Contents, lists_of, module_instance, store_with}
use Rattle.store.specs.State.{StateContents}
use Rattle.store.specs.declared.instances.Addresses.{Addresses}

-- The instance of a module with these addresses.
abbrev pub instance_with : Addresses → Module → ModuleInstance
instance_with addresses m = module_instance (lists_of addresses) m

-- The operands after these instructions, starting from these operands. The last one is on top.
abbrev pub operands_behind : Contents → StateContents → ModuleInstance → List Op → List Val
    → Option (List Val)
operands_behind code state i ops operands =
    constant_operands (store_with code state) i ops (reverse operands)
