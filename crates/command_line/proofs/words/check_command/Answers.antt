use Rattle.command_line.proofs.Building.{last-added}
use Rattle.command_line.proofs.words.check_command.Goals as goal

pub returns : goal.returns
returns c = last-added c.arg.result c.plain_command.ensures c.required.ensures c.arg.ensures
