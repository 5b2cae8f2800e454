-- What loading a module states about its bytes.
use Rattle.std.proofs.Common.{◌≡◌, ℕ, List, Result, Ok, Err, OnOk, map}
use Rattle.std.specs.List.{All}
use Rattle.std.proofs.lemmas.List.Elements.{All-map}
use Rattle.embed.specs.Replies.{reply_of}
use Rattle.embed.specs.declared.commands.Reply.{Reply}
use Rattle.hostfunc.specs.Boxes.{HostStep}
use Rattle.hostfunc.specs.declared.host_function.HostFn.{Ghosts}
use Rattle.hostfunc.specs.declared.host_object.HostObject.{HostObject}
use Rattle.meaning.specs.embedding.Commands.{Command, Loaded, Refused, Refusal}
use Rattle.meaning.specs.embedding.Machine.{Embedding, Loads, loaded, no_module, not_valid, no_memory}
use Rattle.soundness.specs.Headline.{RunsWell}
use Rattle.subcommands.specs.Embeddings.{IsCarriedOut, WithSpectest, spectest_commands}
use Rattle.subcommands.specs.Performing.{SpellValidModule}

loaded-not-refused : {number : ℕ} {why : Refusal} → Loaded number ≡ Refused why → ⊥
loaded-not-refused same = cc

-- A module that is loaded is valid.
pub loaded-valid : {H : Type 0} {old new : Embedding H} {bytes : List ℕ} {number : ℕ} → Loads old bytes (Loaded number) new → SpellValidModule bytes
loaded-valid (loaded {m = m} decoded valid reply left) = (m, decoded, valid)
loaded-valid (no_module none of_bytes refused) = absurd (loaded-not-refused refused.0)
loaded-valid (not_valid decoded invalid refused) = absurd (loaded-not-refused refused.0)
loaded-valid (no_memory refused) = absurd (loaded-not-refused refused.0)

module _ {I : Type 0} {F : I → Type 0} (members : (i : I) → Ghosts (F i)) where
  -- The stored module is registered if the replies state that.
  pub with-spectest : {E : Type 0} {old new : Embedding (HostObject I F)} {commands : List Command} (answers : List Reply) (r : Result (Unit {0}) E)
      → RunsWell (HostStep members) old commands (map reply_of answers) new → commands ≡ spectest_commands
      → OnOk r (All (λ reply. IsCarriedOut (reply_of reply)) answers) → OnOk r (WithSpectest members old new)
  with-spectest answers (Ok done) runs are carried = record {
    replies = map reply_of answers;
    applied = rw (← are) runs;
    carried_out = All-map IsCarriedOut reply_of answers carried;
  }
  with-spectest answers (Err why) runs are carried = tt
