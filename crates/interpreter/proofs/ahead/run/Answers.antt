use Rattle.interpreter.proofs.Looping.{stops-then}
use Rattle.interpreter.proofs.ahead.run.Goals as goal

pub returns-in-None : goal.returns-in-None
returns-in-None c = record { stops = stops-then _ _ _ _ _ c.in-None.ensures.stops c.run_exactly.ensures.stops }
