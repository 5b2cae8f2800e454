-- The commands of a script, as data. Names and texts are lists of bytes.
use Rattle.std.specs.Prelude.{ℕ, ◌+◌, List, [], ◌∷◌, Bool, true, Option, Some, None, is_some, unwrap_or, if◌then◌else◌}
use Rattle.core_types.specs.declared.outcome.Val.{Val}
use Rattle.meaning.specs.embedding.Names.{under}

-- An export that is called or read. Its instance is the one that a name of the script means, or the current one if there is no name.
pub data Action : Type 0 where
  Invoke : (instance : Option (List ℕ)) (field : List ℕ) (arguments : List Val) → Action
  Get : (instance : Option (List ℕ)) (field : List ℕ) → Action

-- What a command tries.
pub data Task : Type 0 where
  -- to load and link the module in a file, and to give its instance a name of the script
  Module : (filename : List ℕ) (name : Option (List ℕ)) → Task
  -- to register an instance under a name
  Register : (name : List ℕ) (instance : Option (List ℕ)) → Task
  -- an action
  Perform : Action → Task
  -- that an action returns these values
  AssertReturn : Action → (expected : List Val) → Task
  -- that an action traps with a text that is a prefix of this one
  AssertTrap : Action → (text : List ℕ) → Task
  -- that an action runs out of fuel or depth
  AssertExhaustion : Action → Task
  -- that the module in a file is not valid
  AssertInvalid : (filename : List ℕ) → Task
  -- that a file encodes no module
  AssertMalformed : (filename : List ℕ) → Task
  -- that an import of the module in a file is unknown, or does not match
  AssertUnlinkable : (filename : List ℕ) → Task
  -- that the link of the module in a file traps
  AssertUninstantiable : (filename : List ℕ) (text : List ℕ) → Task

-- A command: a skipped one, or a task with its line.
pub data ScriptCommand : Type 0 where
  Skipped : ScriptCommand
  Tried : (line : ℕ) → Task → ScriptCommand

-- ---- files

-- The name of the file that a task needs, if it needs one.
abbrev pub task_file : Task → Option (List ℕ)
task_file (Module filename name) = Some filename
task_file (Register name instance) = None
task_file (Perform action) = None
task_file (AssertReturn action expected) = None
task_file (AssertTrap action text) = None
task_file (AssertExhaustion action) = None
task_file (AssertInvalid filename) = Some filename
task_file (AssertMalformed filename) = Some filename
task_file (AssertUnlinkable filename) = Some filename
task_file (AssertUninstantiable filename text) = Some filename

-- The name of the file that a command needs. A skipped command needs none.
abbrev pub command_file : ScriptCommand → Option (List ℕ)
command_file Skipped = None
command_file (Tried line task) = task_file task

abbrev pub with_name : Option (List ℕ) → List (List ℕ) → List (List ℕ)
with_name None names = names
with_name (Some name) names = name ∷ names

-- The names of the files that commands need, in order.
abbrev pub filenames : List ScriptCommand → List (List ℕ)
filenames [] = []
filenames (command ∷ commands) = with_name (command_file command) (filenames commands)

-- The contents of the file of a name, if there is one.
abbrev pub Files : Type 0
Files = (filename : List ℕ) → Option (List ℕ)

-- Files that are listed with their names. Of two files with one name, the first counts.
abbrev pub files_in : List (List ℕ × List ℕ) → Files
files_in files filename = under files filename

-- The contents of the file of a name, or nothing if there is none. No script is run if one of its files is missing.
abbrev pub contents : Files → (filename : List ℕ) → List ℕ
contents files filename = unwrap_or (files filename) []

-- The file is there, if one is needed.
abbrev pub is_there : Files → Option (List ℕ) → Bool
is_there files None = true
is_there files (Some filename) = is_some (files filename)

-- The index of the first command whose file is missing. The commands' indices count from this one.
abbrev pub missing_from : Files → (index : ℕ) → List ScriptCommand → Option ℕ
missing_from files index [] = None
missing_from files index (command ∷ commands) =
    if is_there files (command_file command) then missing_from files (index + 1) commands
    else Some index
