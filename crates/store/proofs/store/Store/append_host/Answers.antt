use Rattle.std.proofs.Common.{ap}
use Rattle.store.specs.Contents.{Contents, store_with}
use Rattle.store.proofs.lemmas.Validity.{Grows, grows-same, host-grows, of-either}
use Rattle.store.proofs.store.Store.append_host.Goals as goal
use Rattle.store.proofs.store.Store.append_host.Goals.{After-append_host}

grows : (c : After-append_host) → Grows (store_with c.self.inside.code c.self.inside.state) (store_with c.append_host.new.self c.self.inside.state)
grows c =
    of-either c.append_host.result _ _ _ _ c.append_host.ensures.functions c.append_host.ensures.instances c.append_host.ensures.unchanged
    (host-grows c.self.inside.code c.append_host.new.self c.self.inside.state c.args.ty _ (rw (← c.self.view_is) at c.requires.functions) c.self.invariant)
    (λ same. grows-same _ _ c.self.invariant (ap (λ (code : Contents). store_with code c.self.inside.state) same))

pub invariant_of-self : goal.invariant_of-self
invariant_of-self c = (grows c).1

pub returns-clause-extends : goal.returns-clause-extends
returns-clause-extends c = rw (← c.self.view_is) (grows c).0
