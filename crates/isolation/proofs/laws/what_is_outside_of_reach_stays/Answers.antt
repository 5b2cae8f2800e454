use Rattle.isolation.proofs.Starts.{links-without-start}
use Rattle.isolation.specs.Regions.{marked}
use Rattle.isolation.proofs.Links.{links-cannot-tell, links-keep-to}
use Rattle.isolation.proofs.Runs.{runs-cannot-tell, runs-keep-to, steps-cannot-tell, steps-keep-to}
use Rattle.isolation.specs.Hosts.{AnswersBy, HostStepBy}
use Rattle.isolation.proofs.laws.what_is_outside_of_reach_stays.Goals as goal

pub returns-clause-changes : goal.returns-clause-changes
returns-clause-changes g c = record {
  runs = λ hosts marks. runs-keep-to hosts.type (AnswersBy hosts) (marked marks);
  steps = λ hosts marks. steps-keep-to hosts.type (AnswersBy hosts) (marked marks);
  links = λ hosts marks. links-keep-to hosts.type (AnswersBy hosts) (marked marks);
  hosts_without_start = λ hosts. links-without-start (HostStepBy hosts);
}

pub returns-clause-reads : goal.returns-clause-reads
returns-clause-reads g c = record {
  runs = λ hosts marks. runs-cannot-tell hosts.type (AnswersBy hosts) (marked marks);
  steps = λ hosts marks. steps-cannot-tell hosts.type (AnswersBy hosts) (marked marks);
  links = λ hosts marks. links-cannot-tell hosts.type (AnswersBy hosts) (marked marks);
}
