use Rattle.simulation.proofs.Entries.{call-enters}
use Rattle.simulation.proofs.laws.callees_are_entered.Goals as goal

pub returns : goal.returns
returns c = λ g cells top valid holds inside s ops at t instance code good below typed enough same begins.
    call-enters g cells top valid holds inside s ops at t instance code good below typed enough same.types same.functions begins
