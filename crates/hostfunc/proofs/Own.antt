-- Host functions that keep their types act by the relation of their objects alone.
use Rattle.std.proofs.Common.{◌≡◌, ℕ, List, ◌∙◌, sym}
use Rattle.core_types.specs.declared.module.Module.{Module}
use Rattle.core_types.specs.declared.outcome.Extern.{Extern}
use Rattle.core_types.specs.declared.outcome.Val.{Val}
use Rattle.meaning.specs.embedding.Commands.{Command, Reply}
use Rattle.meaning.specs.embedding.Machine.{Applies, AppliesAll, Embedding}
use Rattle.meaning.specs.execution.Configurations.{Configuration, Frame}
use Rattle.meaning.specs.execution.Modules.{Instantiation}
use Rattle.meaning.specs.execution.Runs.{Answer, Ending, Run, State}
use Rattle.soundness.specs.Headline.{states_of}
use Rattle.soundness.proofs.Narrowing.{calls-of-own, command-of-own, link-of-own, run-of-own}
use Rattle.hostfunc.specs.Boxes.{HostAnswers, HostStep, IfHostsKeep, KeepsItsType, OwnAnswers, OwnHostStep, type_of_host}
use Rattle.hostfunc.specs.declared.host_function.HostFn.{Ghosts}
use Rattle.hostfunc.specs.declared.host_object.HostObject.{HostObject}

module _ {I : Type 0} {F : I → Type 0} (members : (i : I) → Ghosts (F i)) where
  answers-own : (h h' : HostObject I F) (arguments : List Val) (bytes bytes' : List ℕ) (answer : Answer) → KeepsItsType members h
      → HostAnswers members h arguments bytes answer bytes' h' → h'.ty ≡ h.ty
      → OwnAnswers members h arguments bytes answer bytes' h' × KeepsItsType members h'
  answers-own h h' arguments bytes bytes' answer keeps told same = (told.answers keeps, told.same_declared ∙ keeps ∙ sym same)

  pub own-call : (bound : ℕ) (outside : Frame) {old last : State (HostObject I F)} {first : Configuration} {ending : Ending} → Run (HostStep members) bound outside old first ending last
      → IfHostsKeep members old.hosts last.hosts (Run (OwnHostStep members) bound outside old first ending last)
  own-call bound outside run kept = calls-of-own type_of_host (HostAnswers members) (OwnAnswers members) (KeepsItsType members) answers-own bound outside kept run

  pub own-link : (bound : ℕ) (m : Module) (given : List Extern) (old new : State (HostObject I F)) (ending : Ending) → Instantiation (HostStep members) bound m given old ending new
      → IfHostsKeep members old.hosts new.hosts (Instantiation (OwnHostStep members) bound m given old ending new)
  own-link bound m given old new ending link kept = link-of-own type_of_host (HostAnswers members) (OwnAnswers members) (KeepsItsType members) answers-own bound m given old new ending kept link

  pub own-command : (old new : Embedding (HostObject I F)) (command : Command) (reply : Reply) → Applies (HostStep members) old command reply new
      → IfHostsKeep members old.state.hosts new.state.hosts (Applies (OwnHostStep members) old command reply new)
  own-command old new command reply applies kept = command-of-own type_of_host (HostAnswers members) (OwnAnswers members) (KeepsItsType members) answers-own old new reply kept command applies

  pub own-run : {old last : Embedding (HostObject I F)} {commands : List Command} {replies : List Reply} (run : AppliesAll (HostStep members) old commands replies last)
      → IfHostsKeep members old.state.hosts last.state.hosts
      ((own : AppliesAll (OwnHostStep members) old commands replies last) × (states_of (OwnHostStep members) own ≡ states_of (HostStep members) run))
  own-run run kept =
      let (own, same, keeps) = run-of-own type_of_host (HostAnswers members) (OwnAnswers members) (KeepsItsType members) answers-own kept run in ((own, same), keeps)
