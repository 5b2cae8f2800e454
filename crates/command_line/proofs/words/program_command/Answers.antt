use Rattle.command_line.proofs.Building.{last-made-added, made-added, program-made}
use Rattle.command_line.proofs.words.program_command.Goals as goal

pub returns : goal.returns
returns c =
    let bare = program-made c.plain_command.result c.subcommand_required.result c.no_binary_name-command.result c.plain_command.ensures
    c.subcommand_required.ensures c.no_binary_name-command.ensures in
    let script = made-added _ c.script_command.result bare c.script_command.ensures c.in_ok-command.ensures in
    let call = made-added _ c.call_command.result script c.call_command.ensures c.in_ok-command-2.ensures in
    last-made-added _ c.with_subcommand-3.result c.check_command.result call c.check_command.ensures c.with_subcommand-3.ensures
