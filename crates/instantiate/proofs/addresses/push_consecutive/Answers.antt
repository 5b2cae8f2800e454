use Rattle.instantiate.proofs.lemmas.Addresses.{pushed-next}
use Rattle.instantiate.proofs.addresses.push_consecutive.Goals as goal

pub loop-k-preserved : goal.loop-k-preserved
loop-k-preserved c =
    pushed-next c.args.first c.loop-k.k c.args.addresses.now.items c.loop-k.addresses.items c.push.new.self.items c.loop-k.invariant c.in_ok-push.ensures.items
