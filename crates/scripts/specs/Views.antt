-- Commands of a script, in the terms of the definitions.
use Rattle.std.specs.Prelude.{ℕ, List, Option, option_map, string_bytes}
use Rattle.std.specs.declared.alloc.Global.{Global}
use Rattle.std.specs.Prelude.{String}
use Rattle.meaning.specs.scripts.Commands as script
use Rattle.scripts.specs.declared.script.Action.{Action}
use Rattle.scripts.specs.declared.script.Action.TheVariants.{Invoke, Get}
use Rattle.scripts.specs.declared.script.ScriptCommand.{ScriptCommand}
use Rattle.scripts.specs.declared.script.ScriptCommand.TheVariants.{Skipped, Tried}
use Rattle.scripts.specs.declared.script.Task.{Task}
use Rattle.scripts.specs.declared.script.Task.TheVariants.{Module, Register, Perform, AssertReturn, AssertTrap, AssertExhaustion, AssertInvalid}
use Rattle.scripts.specs.declared.script.Task.TheVariants.{AssertMalformed, AssertUnlinkable, AssertUninstantiable}

-- The bytes of a text that may be missing.
abbrev pub optional_bytes : Option (String Global) → Option (List ℕ)
optional_bytes text = option_map string_bytes text

abbrev pub action_view : Action → script.Action
action_view (Invoke instance field args) =
    script.Invoke (optional_bytes instance) (string_bytes field) args.items
action_view (Get instance field) = script.Get (optional_bytes instance) (string_bytes field)

abbrev pub task_view : Task → script.Task
task_view (Module filename name) = script.Module (string_bytes filename) (optional_bytes name)
task_view (Register name instance) = script.Register (string_bytes name) (optional_bytes instance)
task_view (Perform action) = script.Perform (action_view action)
task_view (AssertReturn action expected) = script.AssertReturn (action_view action) expected.items
task_view (AssertTrap action text) = script.AssertTrap (action_view action) (string_bytes text)
task_view (AssertExhaustion action) = script.AssertExhaustion (action_view action)
task_view (AssertInvalid filename) = script.AssertInvalid (string_bytes filename)
task_view (AssertMalformed filename) = script.AssertMalformed (string_bytes filename)
task_view (AssertUnlinkable filename) = script.AssertUnlinkable (string_bytes filename)
task_view (AssertUninstantiable filename text) =
    script.AssertUninstantiable (string_bytes filename) (string_bytes text)

abbrev pub command_view : ScriptCommand → script.ScriptCommand
command_view Skipped = script.Skipped
command_view (Tried line task) = script.Tried line (task_view task)
