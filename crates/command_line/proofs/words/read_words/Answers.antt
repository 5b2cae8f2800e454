use Rattle.std.proofs.Common.{◌∙◌, ap, subst, map, string_bytes, IfOk}
use Rattle.clap.specs.Words.{App, is_simple, subcommand_of}
use Rattle.command_line.proofs.Building.{program-is-simple}
use Rattle.command_line.specs.Subcommands.{IsSubcommand}
use Rattle.command_line.proofs.words.read_words.Goals as goal

pub returns : goal.returns
returns c =
    let made = c.in_ok-program_command.ensures in
    let words = map string_bytes c.args.words.now in
    let met = (c.in_ok-matches.ensures.matches (ap is_simple made.is ∙ program-is-simple)).1 ∙ ap (λ (app : App). subcommand_of app words) made.is in
    subst (λ rows. IfOk c.subcommand_in.result (IsSubcommand rows)) met c.subcommand_in.ensures
