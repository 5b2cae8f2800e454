use Rattle.embed.proofs.lemmas.Headline.{headline-holds}
use Rattle.embed.proofs.laws.headline.Goals as goal

pub returns : goal.returns
returns g c = headline-holds c.writing_is_read.ensures.whole (λ vtable. (g.dyn-1.0.entry vtable).1) c.args.definitions.now c.requires
