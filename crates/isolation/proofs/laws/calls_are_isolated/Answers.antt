use Rattle.isolation.proofs.Commands.{commands-keep}
use Rattle.isolation.proofs.Others.{others-change-nothing, out-of-reach-changes-nothing}
use Rattle.isolation.specs.Hosts.{AnswersBy}
use Rattle.isolation.proofs.laws.calls_are_isolated.Goals as goal

pub returns : goal.returns
returns g c = record {
  reach = λ hosts. commands-keep hosts.type (AnswersBy hosts);
  others = λ hosts. others-change-nothing hosts.type (AnswersBy hosts);
  out_of_reach = λ hosts. out-of-reach-changes-nothing hosts.type (AnswersBy hosts) c.writing_is_read.ensures.whole;
}
