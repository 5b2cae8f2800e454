use Rattle.examples.proofs.Further.{created-strangers}
use Rattle.examples.proofs.strangers.new_embedding.Goals as goal

pub returns : goal.returns
returns g c = record { strangers = created-strangers (λ vtable. (g.dyn-1.0.entry vtable).1) _ c.new.result.items c.new.ensures.items c.new-2.result c.new-2.ensures.created }
