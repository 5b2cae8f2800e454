-- Why a script was not read.
use Rattle.std.specs.Prelude.{◌≡◌, ℕ, List, Result, Ok, Err, Some, None, Vec, map, IsUtf8}
use Rattle.std.specs.declared.alloc.Global.{Global}
use Rattle.serde_json.specs.Data.{Data}
use Rattle.serde_json.specs.Read.{read}
use Rattle.meaning.specs.embedding.Commands as refusal
use Rattle.meaning.specs.embedding.Refusals.{number_of}
use Rattle.meaning.specs.scripts.Commands as script
use Rattle.scripts.specs.Reading.{script_of}
use Rattle.scripts.specs.Views.{command_view}
use Rattle.scripts.specs.declared.faults.ScriptFault.{ScriptFault}
use Rattle.scripts.specs.declared.faults.ScriptFault.TheVariants.{NotJson, BadCommand, MissingFile, OutOfMemory}
use Rattle.scripts.specs.declared.script.ScriptCommand.{ScriptCommand}

-- The number of the refusal.
abbrev pub fault_number : ScriptFault → ℕ
fault_number NotJson = 15
fault_number (BadCommand index) = 16
fault_number (MissingFile index) = 17
fault_number OutOfMemory = number_of refusal.OutOfMemory

-- The commands are read, or the first one at fault is named.
abbrev pub ReadsCommands : Result (List script.ScriptCommand) ℕ
    → Result (Vec ScriptCommand Global) ScriptFault → Type 0
ReadsCommands there (Ok commands) = there ≡ Ok (map command_view commands.items)
ReadsCommands there (Err (BadCommand index)) = there ≡ Err index
ReadsCommands there (Err OutOfMemory) = Unit {0}
ReadsCommands there (Err NotJson) = ⊥
ReadsCommands there (Err (MissingFile index)) = ⊥

-- The script is that of the JSON value that the bytes encode, or its first command at fault is named. It is refused as no JSON only if
-- the bytes encode no value.
abbrev pub ReadsScript : (bytes : List ℕ) → Result (List script.ScriptCommand) ScriptFault → Type 0
ReadsScript bytes (Ok script) = (d : Data) × (read bytes ≡ Some d) × (script_of d ≡ Ok script)
ReadsScript bytes (Err NotJson) = IsUtf8 bytes → read bytes ≡ None
ReadsScript bytes (Err (BadCommand index)) =
    (d : Data) × (read bytes ≡ Some d) × (script_of d ≡ Err index)
ReadsScript bytes (Err OutOfMemory) = Unit {0}
ReadsScript bytes (Err (MissingFile index)) = ⊥
