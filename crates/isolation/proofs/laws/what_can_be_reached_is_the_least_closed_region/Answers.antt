use Rattle.isolation.proofs.Reach.{reach-is-least, what-is-reached-is-there}
use Rattle.isolation.proofs.laws.what_can_be_reached_is_the_least_closed_region.Goals as goal

pub returns-clause-least : goal.returns-clause-least
returns-clause-least c = reach-is-least

pub returns-clause-there : goal.returns-clause-there
returns-clause-there c = what-is-reached-is-there
