use Rattle.isolation.proofs.Bounds.{commands-deeper, commands-more, lists-deeper, lists-more}
use Rattle.isolation.proofs.Changes.{command-change, setup-kept}
use Rattle.isolation.proofs.Determinism.{commands-agree, links-agree, steps-agree}
use Rattle.isolation.proofs.Early.{links-all-end-early, links-end-early, lists-all-end-early, lists-end-early}
use Rattle.isolation.proofs.Fuel.{all-end-early, calls-deeper, calls-more, runs-deeper, runs-end-early, runs-more, steps-more}
use Rattle.isolation.specs.Hosts.{AnswersBy, HostStepBy}
use Rattle.isolation.proofs.laws.fuel_is_only_a_bound.Goals as goal

pub returns-clause-more : goal.returns-clause-more
returns-clause-more g c = record {
  steps = λ hosts. steps-more (HostStepBy hosts);
  runs = λ hosts. runs-more (HostStepBy hosts);
  calls = λ hosts. calls-more (HostStepBy hosts);
  commands = λ hosts. commands-more (HostStepBy hosts);
  command_lists = λ hosts. lists-more (HostStepBy hosts);
}

pub returns-clause-less : goal.returns-clause-less
returns-clause-less g c = record {
  one = λ hosts. runs-end-early (HostStepBy hosts);
  all = λ hosts bound outside functions. all-end-early (HostStepBy hosts) bound outside (steps-agree hosts.type (AnswersBy hosts) functions);
  links = λ hosts. links-end-early (HostStepBy hosts);
  all_links = λ hosts functions. links-all-end-early (HostStepBy hosts) (links-agree (HostStepBy hosts) (steps-agree hosts.type (AnswersBy hosts) functions));
  command_lists = λ hosts. lists-end-early (HostStepBy hosts);
  all_command_lists = λ hosts functions.
      lists-all-end-early (HostStepBy hosts)
      (commands-agree (HostStepBy hosts) (steps-agree hosts.type (AnswersBy hosts) functions) c.bytes_spell_one_module.ensures);
}

pub returns-clause-deeper : goal.returns-clause-deeper
returns-clause-deeper g c = record {
  runs = λ hosts. runs-deeper (HostStepBy hosts);
  calls = λ hosts. calls-deeper (HostStepBy hosts);
  commands = λ hosts. commands-deeper (HostStepBy hosts);
  command_lists = λ hosts. lists-deeper (HostStepBy hosts) (λ a b command reply applies. setup-kept (HostStepBy hosts) (command-change (HostStepBy hosts) a b reply command applies));
}
