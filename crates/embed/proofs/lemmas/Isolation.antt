-- Isolation, determinism and fuel, for embeddings with these definitions of host functions.
use Rattle.std.proofs.Common.{◌≡◌, ℕ, ◌<◌, ◌^◌, List, length, map, arith, ap, inr, refl, slice_get, subst, sym, ◌∙◌, ◌∷◌, []}
use Rattle.std.proofs.lemmas.List.{length-map}
use Rattle.std.specs.List.{All}
use Rattle.core_types.specs.declared.module.Module.{Module}
use Rattle.meaning.specs.binary.Modules.{SpellsModule}
use Rattle.meaning.specs.embedding.Creation.{HostDefinition}
use Rattle.meaning.specs.embedding.Machine.{AppliesAll, Embedding, none, then_on, with_fuel}
use Rattle.meaning.specs.structure.Bodies.{Body, body_of, writing}
use Rattle.soundness.proofs.Objects.{All-map}
use Rattle.hostfunc.specs.Boxes.{HostAnswers, HostStep, KeepsItsType, type_of_host}
use Rattle.hostfunc.specs.declared.host_function.HostFn.{Ghosts}
use Rattle.hostfunc.specs.declared.host_object.HostObject.{HostObject}
use Rattle.isolation.specs.Engine.{CallsOfTheEngine}
use Rattle.isolation.specs.Engine as of
use Rattle.isolation.proofs.Bounds.{lists-more}
use Rattle.isolation.proofs.Commands.{keeps-to-its-reach}
use Rattle.isolation.proofs.Early.{lists-end-early}
use Rattle.isolation.proofs.Engine.{calls-of-the-engine, replies-of-the-engine}
use Rattle.embed.specs.Definitions.{definition_of}
use Rattle.embed.specs.Isolation.{HasCome, InstancesAreIsolated, IsFunction, KeepsNothing, LessFuelEndsEarly, MoreFuelChangesNothing, OthersChangeNoAnswers, RepliesAreDetermined, TouchesOnlyItsReach}
use Rattle.embed.specs.declared.host_definitions.HostDef.{HostDef}

module _ {I : Type 0} {F : I → Type 0} (members : (i : I) → Ghosts (F i)) where
  pub more-fuel : MoreFuelChangesNothing members
  more-fuel old last commands replies fuel more sets run enough = lists-more (HostStep members) (with_fuel old fuel) last commands replies more sets run enough

  pub less-fuel : LessFuelEndsEarly members
  less-fuel old last commands replies fuel less sets run = lists-end-early (HostStep members) (with_fuel old fuel) last commands replies less sets run

  module _ (definitions : List (HostDef I F)) where
    -- What holds for each host function that is defined holds for each one of a fresh embedding.
    hosts-all : (P : HostObject I F → Type 0) → All (λ (d : HostDef I F). P (definition_of members d).host) definitions
        → All P (map (λ (d : HostDefinition (HostObject I F)). d.host) (map (definition_of members) definitions))
    hosts-all P all =
        All-map P (λ (d : HostDefinition (HostObject I F)). P d.host) (λ (d : HostDefinition (HostObject I F)). d.host) (λ d holds. holds) (map (definition_of members) definitions)
        (All-map (λ (d : HostDefinition (HostObject I F)). P d.host) (λ (d : HostDef I F). P (definition_of members d).host) (definition_of members) (λ d holds. holds) definitions all)

    module _ (few : length definitions < 2 ^ 32) (read : (b : Body) → body_of (writing b) ≡ b) where
      few-defined : length (map (definition_of members) definitions) < 2 ^ 32
      few-defined = let count : length (map (definition_of members) definitions) ≡ length definitions = length-map definitions (definition_of members) in omega (arith, few, count)

      laws : CallsOfTheEngine members
      laws = calls-of-the-engine members read

      pub touches : TouchesOnlyItsReach members definitions
      touches setup before replied old new command reply come applies =
          keeps-to-its-reach type_of_host (HostAnswers members) setup (map (definition_of members) definitions) come.fresh come.created come.applied command reply new applies

      pub apart : InstancesAreIsolated members definitions
      apart setup commands replies at one other come gives differ =
          laws.strangers_are_apart setup (map (definition_of members) definitions) come.fresh at commands replies one other few-defined come.created come.bytes come.applied
          (laws.registered_ones_are_shared setup (map (definition_of members) definitions) come.fresh at commands replies come.created gives come.applied) differ

      pub answers : OthersChangeNoAnswers members definitions
      answers setup before asked replied replies old new number fuel command reply keeps come gave inside applies gives another to asks =
          laws.strangers_change_nothing setup (map (definition_of members) definitions) come.fresh old new before asked replied replies number fuel
          command reply few-defined come.created come.bytes gave come.applied inside gives another applies
          (λ n has. inr (ap (λ (hs : List (HostObject I F)). slice_get hs n) same)) to asks
        where
          fresh-keep : All (of.KeepsNothing members) come.fresh.state.hosts
          fresh-keep = subst (λ (e : Embedding (HostObject I F)). All (of.KeepsNothing members) e.state.hosts) (sym come.created.1)
              (hosts-all (of.KeepsNothing members) (λ k d inside. (refl, keeps k d inside)))

          old-is : old.state.hosts ≡ come.fresh.state.hosts
          old-is = laws.hosts_stay come.fresh old before replied fresh-keep come.applied

          same : new.state.hosts ≡ old.state.hosts
          same = laws.hosts_stay old new (command ∷ []) (reply ∷ []) (subst (All (of.KeepsNothing members)) (sym old-is) fresh-keep) (then_on applies none)

    pub determined : ((bytes : List ℕ) (m n : Module) → SpellsModule bytes m → SpellsModule bytes n → m ≡ n) → RepliesAreDetermined members definitions
    determined spelt setup commands replies_a replies_b a b functions first second had_a had_b =
        replies-of-the-engine members spelt first.fresh a b commands replies_a replies_b fresh-functions first.applied
        (subst (λ (e : Embedding (HostObject I F)). AppliesAll (HostStep members) e commands replies_b b) (second.created.1 ∙ sym first.created.1) second.applied) had_a had_b
      where
        fresh-functions : All (of.IsFunction members) first.fresh.state.hosts
        fresh-functions = subst (λ (e : Embedding (HostObject I F)). All (of.IsFunction members) e.state.hosts) (sym first.created.1)
            (hosts-all (of.IsFunction members) (λ k d inside. (refl, functions k d inside)))
