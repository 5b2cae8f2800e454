use Rattle.meaning.specs.embedding.Commands.{Link}
use Rattle.examples.proofs.Further.{still-strangers}
use Rattle.examples.proofs.strangers.link_plugin.Goals as goal

pub returns : goal.returns
returns g c = record { strangers = still-strangers (λ vtable. (g.dyn-1.0.entry vtable).1) (Link c.args.number.0) _ c.requires.strangers tt tt c.link.ensures.applied }
