-- The commands that `clap` matches the arguments against.
use Rattle.std.specs.Prelude.{◌≡◌, Some, true, false, codes}
use Rattle.clap.specs.Lexer.{usize_max}
use Rattle.clap.specs.Simple.{on_top}
use Rattle.clap.specs.Words.{App, Rule, Text, app_of, new_app, new_rule, rule_of, with_rule, with_subcommand}
use Rattle.clap.specs.declared.builder.action.ArgAction.TheVariants.{Append, Set}
use Rattle.clap.specs.declared.builder.arg.Arg.{Arg}
use Rattle.clap.specs.declared.builder.command.Command.{Command}
use Rattle.clap.specs.declared.builder.command.Command.TheViews.{out-Command as fields_of}

-- The argument is this one, and is not also an argument of the subcommands.
pub record IsArgument (rule : Rule) (arg : Arg) : Type 0 where
  pub is : rule_of arg ≡ rule
  pub local : arg.global ≡ false

-- The command is this one, and none of its arguments is also an argument of its subcommands.
pub record IsCommand (app : App) (command : Command) : Type 0 where
  pub is : app_of command ≡ app
  pub local : (fields_of command).has_globals ≡ false

-- A command without help and version flags, and without a help subcommand.
abbrev pub plain : (name : Text) → App
plain name = on_top (λ shape. record shape {
  disable_help_flag = true;
  disable_version_flag = true;
  disable_help_subcommand = true;
}) (new_app name)

-- A required argument.
abbrev pub required : (name : Text) → Rule
required name = record (new_rule name) { action = Some Set; required = true }

-- An argument that takes any number of values.
abbrev pub repeated : (name : Text) → Rule
repeated name = record (new_rule name) {
  action = Some Append;
  range = Some (record { start_inclusive = 0; end_inclusive = usize_max });
}

-- An option with one value.
abbrev pub option : (name : Text) → Rule
option name = record (new_rule name) { action = Some Set; long = Some name }

abbrev pub with_options : App → App
with_options command =
    with_rule (with_rule command (option (codes "fuel"))) (option (codes "depth"))

abbrev pub script : App
script = with_options (with_rule (plain (codes "script")) (required (codes "file")))

abbrev pub call : App
call = with_options (with_rule (with_rule
    (with_rule (plain (codes "call")) (required (codes "file")))
    (required (codes "export"))) (repeated (codes "args")))

abbrev pub check : App
check = with_rule (plain (codes "check")) (required (codes "file"))

-- The program without its three subcommands. Its first argument must name one of them.
abbrev pub bare_program : App
bare_program = on_top (λ shape. record shape { subcommand_required = true; no_binary_name = true })
    (plain (codes "wasmrun"))

abbrev pub program : App
program =
    with_subcommand (with_subcommand (with_subcommand bare_program script.top) call.top) check.top
