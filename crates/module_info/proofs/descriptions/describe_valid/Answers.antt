use Rattle.module_info.proofs.Lines.{nothing-told}
use Rattle.module_info.proofs.descriptions.describe_valid.Goals as goal

pub returns-in-None-clause-told : goal.returns-in-None-clause-told
returns-in-None-clause-told g c = nothing-told (g.W.Write.contents c.args.out.now)
