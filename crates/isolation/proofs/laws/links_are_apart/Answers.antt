use Rattle.isolation.proofs.Apart.{links-are-apart, registered-ones, strangers-are-apart, strangers-change-nothing}
use Rattle.isolation.specs.Hosts.{AnswersBy}
use Rattle.isolation.proofs.laws.links_are_apart.Goals as goal

pub returns : goal.returns
returns g c = record {
  links = λ hosts. links-are-apart hosts.type (AnswersBy hosts) c.writing_is_read.ensures.whole;
  strangers = λ hosts. strangers-are-apart hosts.type (AnswersBy hosts) c.writing_is_read.ensures.whole;
  registered = λ hosts. registered-ones hosts.type (AnswersBy hosts);
  answers = λ hosts. strangers-change-nothing hosts.type (AnswersBy hosts) c.writing_is_read.ensures.whole;
}
