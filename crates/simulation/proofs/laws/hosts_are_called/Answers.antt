use Rattle.simulation.proofs.Hosts.{bytes-lent, calls-reach-hosts, tail-calls-reach-hosts}
use Rattle.simulation.proofs.laws.hosts_are_called.Goals as goal

pub returns-clause-calls_reach_hosts : goal.returns-clause-calls_reach_hosts
returns-clause-calls_reach_hosts c = calls-reach-hosts

pub returns-clause-changes_lent_bytes : goal.returns-clause-changes_lent_bytes
returns-clause-changes_lent_bytes c = bytes-lent

pub returns-clause-tail_calls_reach_hosts : goal.returns-clause-tail_calls_reach_hosts
returns-clause-tail_calls_reach_hosts c = tail-calls-reach-hosts
