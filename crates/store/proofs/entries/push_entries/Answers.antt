use Rattle.store.proofs.lemmas.Entries.{entries-next}
use Rattle.store.proofs.entries.push_entries.Goals as goal

pub loop-index-preserved : goal.loop-index-preserved
loop-index-preserved c =
    entries-next c.args.instance c.loop-index.index c.args.functions.now.items c.loop-index.functions.items c.push.new.self.items c.loop-index.invariant c.in-Ok.ensures.items
