use Rattle.embed.proofs.lemmas.Isolation.{answers, apart, touches}
use Rattle.embed.proofs.isolation_laws.isolated.Goals as goal

pub returns-clause-touches : goal.returns-clause-touches
returns-clause-touches g c = touches (λ vtable. (g.dyn-1.0.entry vtable).1) c.args.definitions.now c.requires c.writing_is_read.ensures.whole

pub returns-clause-apart : goal.returns-clause-apart
returns-clause-apart g c = apart (λ vtable. (g.dyn-1.0.entry vtable).1) c.args.definitions.now c.requires c.writing_is_read.ensures.whole

pub returns-clause-answers : goal.returns-clause-answers
returns-clause-answers g c = answers (λ vtable. (g.dyn-1.0.entry vtable).1) c.args.definitions.now c.requires c.writing_is_read.ensures.whole
