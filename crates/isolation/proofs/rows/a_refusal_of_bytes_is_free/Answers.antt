use Rattle.std.proofs.Common.{refl}
use Rattle.meaning.specs.embedding.Machine.{limit, malformed, no_module}
use Rattle.isolation.proofs.rows.a_refusal_of_bytes_is_free.Goals as goal

pub returns-clause-malformed : goal.returns-clause-malformed
returns-clause-malformed g c at bytes missing = no_module missing malformed (refl, refl)

pub returns-clause-limit : goal.returns-clause-limit
returns-clause-limit g c at bytes missing = no_module missing limit (refl, refl)

pub returns-clause-memory : goal.returns-clause-memory
returns-clause-memory g c had = had.run refl
