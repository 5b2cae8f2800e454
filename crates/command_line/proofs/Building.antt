-- How the program's commands are built.
use Rattle.std.proofs.Common.{◌≡◌, ◌∙◌, ◌||◌, ap, ap₂, refl, true, false, IfOk, Result, Ok, Err}
use Rattle.std.specs.Prelude.{IsOkAnd, codes}
use Rattle.clap.proofs.OnLiterals.{clap_on_literals}
use Rattle.clap.specs.Simple.{app_of_fields, on_top}
use Rattle.clap.specs.Words.{AddsArg, AddsSubcommand, App, Rule, Text, app_of, is_simple, new_app, with_rule, with_subcommand}
use Rattle.clap.specs.declared.builder.arg.Arg.{Arg}
use Rattle.clap.specs.declared.builder.command.Command.{Command}
use Rattle.clap.specs.declared.builder.command.Command.TheOpen.{Command-F}
use Rattle.clap.specs.declared.builder.command.Command.TheViews.{out-Command as fields_of}
use Rattle.command_line.specs.Commands.{IsArgument, IsCommand, bare_program, plain, program}

pub plain-made : {name : Text} (new a b c : Command) → app_of new ≡ new_app name → (fields_of new).has_globals ≡ false
    → fields_of a ≡ record (fields_of new) { disable_help_flag = true }
    → fields_of b ≡ record (fields_of a) { disable_version_flag = true }
    → fields_of c ≡ record (fields_of b) { disable_help_subcommand = true } → IsCommand (plain name) c
plain-made {name} new a b c app local help version subcommand =
    let all = subcommand ∙ ap (λ (f : Command-F Command). record f { disable_help_subcommand = true })
    (version ∙ ap (λ (f : Command-F Command). record f { disable_version_flag = true }) help) in
    record {
      is = ap app_of_fields all ∙ ap (on_top (λ shape. record shape { disable_help_flag = true; disable_version_flag = true; disable_help_subcommand = true })) app;
      local = ap (λ (f : Command-F Command). f.has_globals) all ∙ local;
    }

pub program-made : (old a b : Command) → IsCommand (plain (codes "wasmrun")) old → fields_of a ≡ record (fields_of old) { subcommand_required = true }
    → fields_of b ≡ record (fields_of a) { no_binary_name = true } → IsCommand bare_program b
program-made old a b command required words =
    let all = words ∙ ap (λ (f : Command-F Command). record f { no_binary_name = true }) required in
    record {
      is = ap app_of_fields all ∙ ap (on_top (λ shape. record shape { subcommand_required = true; no_binary_name = true })) command.is;
      local = ap (λ (f : Command-F Command). f.has_globals) all ∙ command.local;
    }

-- One more argument is added.
pub added : {app : App} {rule : Rule} {old new : Command} {arg : Arg} → IsCommand app old → IsArgument rule arg → AddsArg old arg new
    → IsCommand (with_rule app rule) new
added command argument adds = record {
  is = adds.shape argument.local ∙ ap₂ with_rule command.is argument.is;
  local = adds.globals ∙ ap₂ ◌||◌ command.local argument.local;
}

pub last-added : {E : Type 0} {app : App} {rule : Rule} {old : Command} {arg : Arg} (r : Result Command E) → IsCommand app old → IsArgument rule arg
    → IfOk r (AddsArg old arg) → IfOk r (IsCommand (with_rule app rule))
last-added (Ok new) command argument adds = added command argument adds
last-added (Err error) command argument adds = tt

-- One more subcommand is added.
sub-added : {app sub_app : App} {old sub new : Command} → IsCommand app old → IsCommand sub_app sub → AddsSubcommand old sub new
    → IsCommand (with_subcommand app sub_app.top) new
sub-added command subcommand adds = record {
  is = adds.shape subcommand.local ∙ ap₂ with_subcommand command.is (ap (λ (app : App). app.top) subcommand.is);
  local = adds.globals ∙ ap₂ ◌||◌ command.local subcommand.local;
}

pub made-added : {E : Type 0} {app : App} (sub_app : App) {old new : Command} (made : Result Command E) → IsCommand app old → IfOk made (IsCommand sub_app)
    → IsOkAnd made (λ sub. AddsSubcommand old sub new) → IsCommand (with_subcommand app sub_app.top) new
made-added sub_app (Ok sub) command subcommand adds = sub-added command subcommand adds
made-added sub_app (Err error) command subcommand adds = absurd adds

pub last-made-added : {E F : Type 0} {app : App} (sub_app : App) {old : Command} (r : Result Command F) (made : Result Command E) → IsCommand app old
    → IfOk made (IsCommand sub_app) → IfOk r (λ new. IsOkAnd made (λ sub. AddsSubcommand old sub new))
    → IfOk r (IsCommand (with_subcommand app sub_app.top))
last-made-added sub_app (Ok new) made command subcommand adds = made-added sub_app made command subcommand adds
last-made-added sub_app (Err error) made command subcommand adds = tt

-- The matches of the program are exact.
pub program-is-simple : is_simple program ≡ true
unfolding clap_on_literals
program-is-simple = refl
