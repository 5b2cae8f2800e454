use Rattle.isolation.proofs.Engine.{calls-of-the-engine, replies-of-the-engine}
use Rattle.isolation.proofs.laws.laws_of_the_engine.Goals as goal

pub returns-clause-replies : goal.returns-clause-replies
returns-clause-replies c c' = replies-of-the-engine (λ vtable. (c.dyn-1.0.entry vtable).1) c'.bytes_spell_one_module.ensures

pub returns-clause-calls : goal.returns-clause-calls
returns-clause-calls c c' = calls-of-the-engine (λ vtable. (c.dyn-1.0.entry vtable).1) c'.writing_is_read.ensures.whole
