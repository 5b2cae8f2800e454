use Rattle.command_line.proofs.Building.{plain-made}
use Rattle.command_line.proofs.words.plain_command.Goals as goal

pub returns : goal.returns
returns c =
    plain-made c.new.result c.disable_help_flag.result c.disable_version_flag.result c.disable_help_subcommand.result c.new.ensures.app
    c.new.ensures.local c.disable_help_flag.ensures c.disable_version_flag.ensures c.disable_help_subcommand.ensures
