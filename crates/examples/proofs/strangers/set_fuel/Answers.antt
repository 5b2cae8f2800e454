use Rattle.meaning.specs.embedding.Commands.{SetFuel, Done}
use Rattle.examples.proofs.Further.{still-strangers}
use Rattle.examples.proofs.strangers.set_fuel.Goals as goal

pub returns : goal.returns
returns g c = record { strangers = still-strangers (λ vtable. (g.dyn-1.0.entry vtable).1) (SetFuel c.args.fuel) Done c.requires.strangers tt tt c.set_fuel.ensures.applied }
