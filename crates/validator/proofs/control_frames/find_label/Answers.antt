use Rattle.std.proofs.Common.{◌<◌, ◌≤◌, ap, ◌∙◌, sym, Some, length, arith}
use Rattle.validator.proofs.Labels.{label-at}
use Rattle.validator.proofs.control_frames.find_label.Goals as goal

pub returns-clause-some : goal.returns-clause-some
returns-clause-some c =
    let some : 0 < c.args.index = omega arith in
    let within : c.args.index ≤ length c.args.outer.now = omega arith in
    label-at c.args.innermost.now c.args.outer.now c.args.index _ some within ∙ ap Some (sym c.label_types-2.ensures)
