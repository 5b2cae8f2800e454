-- A script as a function of a JSON value.
use Rattle.std.specs.Prelude.{ℕ, ◌+◌, ◌-◌, ◌*◌, ◌^◌, ◌&&◌, ◌==◌, not, ◌||◌, List, [], ◌∷◌, Bool, false, Option, Some, None, option_map, option_and_then, Result}
use Rattle.std.specs.Prelude.{Ok, Err, bytes_eq, codes, length, nat_lt, if◌then◌else◌}
use Rattle.std.specs.Char.{is_ascii_digit}
use Rattle.std.specs.List.{list_all, list_any}
use Rattle.core_types.specs.declared.outcome.Val.{Val}
use Rattle.core_types.specs.declared.outcome.Val.TheVariants.{I32, I64, FuncRef, ExternRef}
use Rattle.serde_json.specs.Data.{Data, Items, no_items, item}
use Rattle.serde_json.specs.Find.{get, as_array, as_number, as_str, as_u64}
use Rattle.meaning.specs.execution.Modules.{map_all}
use Rattle.meaning.specs.scripts.Commands.{ScriptCommand, Skipped, Tried}
use Rattle.meaning.specs.scripts.Commands as script
use Rattle.scripts.specs.Kinds.{has_action, has_expected, kind_named}
use Rattle.scripts.specs.declared.kinds.Kind.{Kind}
use Rattle.scripts.specs.declared.kinds.Kind.TheVariants as kind

-- ---- fields

-- The text in a field of an object.
abbrev pub text_in : (key : List ℕ) → Data → Option (List ℕ)
text_in key d = option_and_then as_str (get key d)

-- The text in a field that may be missing.
abbrev pub optional_text : Option Data → Option (Option (List ℕ))
optional_text None = Some None
optional_text (Some d) = option_map (λ (text : List ℕ). Some text) (as_str d)

abbrev pub optional_text_in : (key : List ℕ) → Data → Option (Option (List ℕ))
optional_text_in key d = optional_text (get key d)

abbrev pub data_in : Items → List Data
data_in no_items = []
data_in (item d ds) = d ∷ data_in ds

-- The items of the array in a field.
abbrev pub array_in : (key : List ℕ) → Data → Option (List Data)
array_in key d = option_map data_in (option_and_then as_array (get key d))

-- ---- numbers

-- The line of a command, which is a whole number of 32 bits in the value.
abbrev pub short_line : ℕ → Option ℕ
short_line line = if nat_lt line (2 ^ 32) then Some line else None

abbrev pub line_of : Data → Option ℕ
line_of d = option_and_then short_line
    (option_and_then as_u64 (option_and_then as_number (get (codes "line") d)))

-- The number that digits encode after the digits of a number.
abbrev pub digits_behind : ℕ → List ℕ → ℕ
digits_behind n [] = n
digits_behind n (digit ∷ digits) = digits_behind (10 * n + (digit - 48)) digits

-- One or more ASCII digits.
abbrev pub is_number : List ℕ → Bool
is_number text = not (length text == 0) && list_all is_ascii_digit text

-- The number that a text encodes, if it is below this bound.
abbrev pub number_below : ℕ → List ℕ → Option ℕ
number_below bound text =
    if is_number text && nat_lt (digits_behind 0 text) bound then Some (digits_behind 0 text)
    else None

-- ---- values

abbrev pub is_null : List ℕ → Bool
is_null text = bytes_eq text (codes "null")

abbrev pub reference_of : List ℕ → Option (Option ℕ)
reference_of text =
    if is_null text then Some None else option_map (λ (n : ℕ). Some n) (number_below (2 ^ 32) text)

-- The value of a type that a text represents.
abbrev pub value_of_type : (ty text : List ℕ) → Option Val
value_of_type ty text =
    if bytes_eq ty (codes "i32") then option_map I32 (number_below (2 ^ 32) text)
    else (if bytes_eq ty (codes "i64") then option_map I64 (number_below (2 ^ 64) text)
    else (if bytes_eq ty (codes "externref") then option_map ExternRef (reference_of text)
    else (if bytes_eq ty (codes "funcref") && is_null text then Some (FuncRef None) else None)))

abbrev pub value_of : Data → Option Val
value_of d = option_and_then (λ ty. option_and_then (value_of_type ty) (text_in (codes "value") d))
    (text_in (codes "type") d)

-- The values in the array in a field.
abbrev pub values_in : (key : List ℕ) → Data → Option (List Val)
values_in key d = option_and_then (map_all value_of) (array_in key d)

-- ---- commands that are skipped

-- The name of an unsupported type of values.
abbrev pub is_left_out_type : List ℕ → Bool
is_left_out_type name =
    bytes_eq name (codes "f32") || bytes_eq name (codes "f64") || bytes_eq name (codes "v128")

abbrev pub holds : (List ℕ → Bool) → Option (List ℕ) → Bool
holds test None = false
holds test (Some text) = test text

-- An object of such a type.
abbrev pub is_left_out : Data → Bool
is_left_out d = holds is_left_out_type (text_in (codes "type") d)

abbrev pub any_left_out : Option (List Data) → Bool
any_left_out None = false
any_left_out (Some ds) = list_any is_left_out ds

-- Such an object is in the array in a field.
abbrev pub has_left_out_in : (key : List ℕ) → Data → Bool
has_left_out_in key d = any_left_out (array_in key d)

-- Such an object is in the arguments of the action, if there is one.
abbrev pub has_left_out_argument : Option Data → Bool
has_left_out_argument None = false
has_left_out_argument (Some action) = has_left_out_in (codes "args") action

-- The module is given as text.
abbrev pub is_text_module : Data → Bool
is_text_module d = holds (λ name. bytes_eq name (codes "text")) (text_in (codes "module_type") d)

abbrev pub is_skipped : Kind → Data → Bool
is_skipped kind d =
    is_text_module d || has_expected kind && has_left_out_in (codes "expected") d
    || has_action kind && has_left_out_argument (get (codes "action") d)

-- ---- actions

abbrev pub invoke_of : Data → Option script.Action
invoke_of d =
    option_and_then (λ instance. option_and_then
    (λ field. option_map (script.Invoke instance field) (values_in (codes "args") d))
    (text_in (codes "field") d)) (optional_text_in (codes "module") d)

abbrev pub get_of : Data → Option script.Action
get_of d = option_and_then (λ instance. option_map (script.Get instance)
    (text_in (codes "field") d)) (optional_text_in (codes "module") d)

abbrev pub action_of_type : Data → (ty : List ℕ) → Option script.Action
action_of_type d ty =
    if bytes_eq ty (codes "invoke") then invoke_of d
    else (if bytes_eq ty (codes "get") then get_of d else None)

abbrev pub action_of : Data → Option script.Action
action_of d = option_and_then (action_of_type d) (text_in (codes "type") d)

-- The action of a command.
abbrev pub action_in : Data → Option script.Action
action_in d = option_and_then action_of (get (codes "action") d)

-- ---- tasks

abbrev pub module_of : Data → Option script.Task
module_of d =
    option_and_then (λ filename. option_map (script.Module filename)
    (optional_text_in (codes "name") d)) (text_in (codes "filename") d)

abbrev pub register_of : Data → Option script.Task
register_of d =
    option_and_then (λ name. option_map (script.Register name) (optional_text_in (codes "name") d))
    (text_in (codes "as") d)

abbrev pub return_of : Data → Option script.Task
return_of d = option_and_then
    (λ action. option_map (script.AssertReturn action) (values_in (codes "expected") d))
    (action_in d)

abbrev pub trap_of : Data → Option script.Task
trap_of d = option_and_then (λ action. option_map (script.AssertTrap action)
    (text_in (codes "text") d)) (action_in d)

abbrev pub uninstantiable_of : Data → Option script.Task
uninstantiable_of d =
    option_and_then (λ filename. option_map (script.AssertUninstantiable filename)
    (text_in (codes "text") d))
    (text_in (codes "filename") d)

-- The task of a command of a type.
abbrev pub task_of : Kind → Data → Option script.Task
task_of kind.Module d = module_of d
task_of kind.Register d = register_of d
task_of kind.Action d = option_map script.Perform (action_in d)
task_of kind.AssertReturn d = return_of d
task_of kind.AssertTrap d = trap_of d
task_of kind.AssertExhaustion d = option_map script.AssertExhaustion (action_in d)
task_of kind.AssertInvalid d = option_map script.AssertInvalid (text_in (codes "filename") d)
task_of kind.AssertMalformed d = option_map script.AssertMalformed (text_in (codes "filename") d)
task_of kind.AssertUnlinkable d = option_map script.AssertUnlinkable (text_in (codes "filename") d)
task_of kind.AssertUninstantiable d = uninstantiable_of d

-- ---- commands

abbrev pub kind_of : Data → Option Kind
kind_of d = option_and_then kind_named (text_in (codes "type") d)

-- A command of a type and a line. If it is skipped, its other fields are ignored.
abbrev pub command_at : Kind → (line : ℕ) → Data → Option ScriptCommand
command_at kind line d =
    if is_skipped kind d then Some Skipped else option_map (Tried line) (task_of kind d)

abbrev pub command_of : Data → Option ScriptCommand
command_of d = option_and_then
    (λ kind. option_and_then (λ line. command_at kind line d) (line_of d)) (kind_of d)

-- A command before the existing ones, or the index of the first one at fault.
abbrev pub with_command : (index : ℕ) → Option ScriptCommand → Result (List ScriptCommand) ℕ
    → Result (List ScriptCommand) ℕ
with_command index None rest = Err index
with_command index (Some command) (Ok commands) = Ok (command ∷ commands)
with_command index (Some command) (Err later) = Err later

-- All commands, or the index of the first one at fault. Indices count from this one.
abbrev pub commands_in : (index : ℕ) → List Data → Result (List ScriptCommand) ℕ
commands_in index [] = Ok []
commands_in index (d ∷ ds) = with_command index (command_of d) (commands_in (index + 1) ds)

abbrev pub commands_or_none : Option (List Data) → Result (List ScriptCommand) ℕ
commands_or_none None = Err 0
commands_or_none (Some ds) = commands_in 0 ds

-- The script of a JSON value, or the index of the first command at fault. The index is 0 if there is no array of commands.
abbrev pub script_of : Data → Result (List ScriptCommand) ℕ
script_of d = commands_or_none (array_in (codes "commands") d)
