-- The headline, for an embedding and for each command: host functions that keep their types act by the relations of their objects alone.
use Rattle.std.proofs.Common.{◌≡◌, ◌<◌, ◌^◌, List, length, map, refl, subst, sym, arith}
use Rattle.std.proofs.lemmas.List.{length-map}
use Rattle.std.specs.List.{All}
use Rattle.meaning.specs.embedding.Creation.{HostDefinition}
use Rattle.meaning.specs.embedding.Commands.{Command, Reply}
use Rattle.meaning.specs.embedding.Machine.{Applies, Embedding}
use Rattle.meaning.specs.structure.Bodies.{Body, body_of, writing}
use Rattle.soundness.specs.Embedding.{GoesWell, IsSound, LinksSoundModule}
use Rattle.soundness.specs.Headline.{AppliesWell, IsAsSaid}
use Rattle.soundness.proofs.Embedding.{goes-well}
use Rattle.soundness.proofs.Headline.{headline, is-said}
use Rattle.soundness.proofs.Objects.{All-map}
use Rattle.hostfunc.proofs.Own.{own-command, own-run}
use Rattle.hostfunc.specs.Boxes.{HostAnswers, HostStep, IfHostsKeep, KeepsItsType, OwnAnswers, OwnHostStep, type_of_host}
use Rattle.hostfunc.specs.declared.host_function.HostFn.{Ghosts}
use Rattle.hostfunc.specs.declared.host_object.HostObject.{HostObject}
use Rattle.embed.specs.Definitions.{definition_of}
use Rattle.embed.specs.Headline.{IsAsTheHeadlineSays}
use Rattle.embed.specs.declared.host_definitions.HostDef.{HostDef}

module _ (read : (b : Body) → body_of (writing b) ≡ b) {I : Type 0} {F : I → Type 0} (members : (i : I) → Ghosts (F i)) (definitions : List (HostDef I F)) where
  hosts-keep : All (KeepsItsType members) (map (λ (d : HostDefinition (HostObject I F)). d.host) (map (definition_of members) definitions))
  hosts-keep =
      All-map (KeepsItsType members) (λ (d : HostDefinition (HostObject I F)). KeepsItsType members d.host)
      (λ (d : HostDefinition (HostObject I F)). d.host) (λ d keeps. keeps) (map (definition_of members) definitions)
      (All-map (λ (d : HostDefinition (HostObject I F)). KeepsItsType members d.host) (λ (d : HostDef I F). Unit {0}) (definition_of members) (λ d one. refl) definitions (λ k d inside. tt))

  pub headline-holds : length definitions < 2 ^ 32 → IsAsTheHeadlineSays members definitions
  headline-holds few setup fresh last commands replies created bytes run =
      let kept = subst (λ (e : Embedding (HostObject I F)). All (KeepsItsType members) e.state.hosts) (sym created.1) hosts-keep in
      let ((own, same), keeps) = own-run members run kept in
      let count : length (map (definition_of members) definitions) ≡ length definitions = length-map definitions (definition_of members) in
      (own, same, headline type_of_host (OwnAnswers members) read setup (map (definition_of members) definitions) fresh last commands replies (omega (arith, few, count)) created bytes own)

-- ---- commands

module _ (read : (b : Body) → body_of (writing b) ≡ b) {I : Type 0} {F : I → Type 0} (members : (i : I) → Ghosts (F i)) where
  -- What holds for a command that was applied to a sound embedding.
  pub record IsDone (old : Embedding (HostObject I F)) (command : Command) (reply : Reply) (new : Embedding (HostObject I F)) : Type 0 where
    pub goes_well : GoesWell old command reply new
    pub as_said : IsAsSaid (HostStep members) old command reply new
    pub own : IfHostsKeep members old.state.hosts new.state.hosts (AppliesWell (OwnHostStep members) old command reply new)
    pub sound : IsSound type_of_host new

  pub is-done : (old new : Embedding (HostObject I F)) → IsSound type_of_host old → (command : Command) → LinksSoundModule old command
      → (reply : Reply) → Applies (HostStep members) old command reply new → IsDone old command reply new
  is-done old new sound command linkable reply applies =
      let (well, sound_then) = goes-well type_of_host (HostAnswers members) old new sound reply read command linkable applies in
      record {
        goes_well = well;
        as_said = is-said type_of_host (HostAnswers members) read old new sound command linkable reply applies;
        own = λ kept. (
            let (own, keeps) = own-command members old new command reply applies kept in
            ((own, well, is-said type_of_host (OwnAnswers members) read old new sound command linkable reply own), keeps));
        sound = sound_then;
      }
