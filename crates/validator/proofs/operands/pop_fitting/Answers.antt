use Rattle.validator.proofs.Pops.{pop_answer}
use Rattle.validator.proofs.operands.pop_fitting.Goals as goal

pub returns-in-Some : goal.returns-in-Some
returns-in-Some c = pop_answer c.args.frame.now _ c.fits.result _ c.in-Some.given c.args.wanted c.in-Some.ensures.some c.fits.ensures
