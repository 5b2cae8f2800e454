use Rattle.std.proofs.lemmas.Result.{IfOk-weaker}
use Rattle.validator.proofs.References.{are_marks}
use Rattle.validator.proofs.context.references.mark_references.Goals as goal

pub returns : goal.returns
returns c = IfOk-weaker c.marks_of.result _ _ (λ marks set. are_marks c.args.decoded.now c.args.count marks.items c.requires set) c.marks_of.ensures
