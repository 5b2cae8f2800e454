use Rattle.meaning.specs.embedding.Commands.{Load}
use Rattle.examples.proofs.Further.{still-strangers}
use Rattle.examples.proofs.strangers.load_plugin.Goals as goal

pub returns : goal.returns
returns g c = record { strangers = still-strangers (λ vtable. (g.dyn-1.0.entry vtable).1) (Load c.args.bytes.now) _ c.requires.strangers c.show_bytes.ensures tt c.load.ensures.applied }
