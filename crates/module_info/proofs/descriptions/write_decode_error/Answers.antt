use Rattle.module_info.proofs.Lines.{nothing-told}
use Rattle.module_info.proofs.descriptions.write_decode_error.Goals as goal

pub returns-in-OutOfMemory-clause-told : goal.returns-in-OutOfMemory-clause-told
returns-in-OutOfMemory-clause-told g c = nothing-told (g.W.Write.contents c.args.out.now)
