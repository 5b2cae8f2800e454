use Rattle.meaning.specs.embedding.Machine.{none, then_on}
use Rattle.account.proofs.pay_for_call.Goals as goal

pub returns-clause-called : goal.returns-clause-called
returns-clause-called g c =
    then_on c.set_fuel.ensures.applied (then_on c.call-outcome.ensures.applied none)
