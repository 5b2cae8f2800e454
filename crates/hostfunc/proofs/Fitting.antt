-- Host functions in boxes answer well.
use Rattle.soundness.specs.Runs.{HostsAnswerWell}
use Rattle.soundness.proofs.Hosts.{hosts-answer-well}
use Rattle.hostfunc.specs.Boxes.{HaveHosts, HostAnswers, HostStep, type_of_host}
use Rattle.hostfunc.specs.declared.host_function.HostFn.{Ghosts}

module _ {I : Type 0} {F : I → Type 0} (members : (i : I) → Ghosts (F i)) where
  pub boxes-answer-well : HostsAnswerWell (HostStep members) HaveHosts
  boxes-answer-well = hosts-answer-well type_of_host (HostAnswers members)
