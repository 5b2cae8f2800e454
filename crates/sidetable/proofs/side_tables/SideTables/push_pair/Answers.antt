use Rattle.std.proofs.Common.{refl}
use Rattle.sidetable.proofs.Adding.{adds-no-range}
use Rattle.sidetable.proofs.Growth.{continues-same}
use Rattle.sidetable.proofs.side_tables.SideTables.push_pair.Goals as goal

pub returns-clause-adds : goal.returns-clause-adds
returns-clause-adds c = adds-no-range _ _ (continues-same c.args.self.now.entries.items) (continues-same c.args.self.now.constants.items) (_, c.in_ok-push.ensures.items) refl
