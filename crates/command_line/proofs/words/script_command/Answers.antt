use Rattle.command_line.proofs.Building.{added, last-added}
use Rattle.command_line.proofs.words.script_command.Goals as goal

pub returns : goal.returns
returns c =
    let file = added c.plain_command.ensures c.required.ensures c.in_ok-arg.ensures in
    last-added c.arg-3.result (added file c.option.ensures c.in_ok-arg-2.ensures) c.option-2.ensures c.arg-3.ensures
