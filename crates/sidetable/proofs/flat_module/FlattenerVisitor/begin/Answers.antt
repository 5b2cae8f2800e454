use Rattle.std.proofs.Common.{arith}
use Rattle.sidetable.proofs.Wholes.{begun-first}
use Rattle.sidetable.proofs.flat_module.FlattenerVisitor.begin.Goals as goal

pub returns-clause-ready : goal.returns-clause-ready
returns-clause-ready c = (c.args.self.now.flattening.tables, omega (arith, c.len-self.ensures), begun-first _ _ _ _ _ c.in_ok-self.ensures.starts)
