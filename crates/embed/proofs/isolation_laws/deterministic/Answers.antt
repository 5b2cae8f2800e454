use Rattle.embed.proofs.lemmas.Isolation.{determined}
use Rattle.embed.proofs.isolation_laws.deterministic.Goals as goal

pub returns : goal.returns
returns g c = determined (λ vtable. (g.dyn-1.0.entry vtable).1) c.args.definitions.now c.bytes_spell_one_module.ensures
