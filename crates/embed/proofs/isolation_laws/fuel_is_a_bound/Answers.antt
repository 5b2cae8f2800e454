use Rattle.embed.proofs.lemmas.Isolation.{less-fuel, more-fuel}
use Rattle.embed.proofs.isolation_laws.fuel_is_a_bound.Goals as goal

pub returns-clause-more : goal.returns-clause-more
returns-clause-more g c = more-fuel (λ vtable. (g.dyn-1.0.entry vtable).1)

pub returns-clause-less : goal.returns-clause-less
returns-clause-less g c = less-fuel (λ vtable. (g.dyn-1.0.entry vtable).1)
