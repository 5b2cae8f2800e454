use Rattle.command_line.proofs.Building.{added, last-added}
use Rattle.command_line.proofs.words.call_command.Goals as goal

pub returns : goal.returns
returns c =
    let file = added c.plain_command.ensures c.required.ensures c.in_ok-arg.ensures in
    let export = added file c.required-2.ensures c.in_ok-arg-2.ensures in
    let args = added export c.repeated.ensures c.in_ok-arg-3.ensures in
    last-added c.arg-5.result (added args c.option.ensures c.in_ok-arg-4.ensures) c.option-2.ensures c.arg-5.ensures
