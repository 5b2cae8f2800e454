-- Dialogues with an embedding.
use Rattle.std.specs.Prelude.{◌≡◌, ℕ, List, Option, Result, Ok, Err}
use Rattle.core_types.specs.declared.outcome.Val.{Val}
use Rattle.meaning.specs.embedding.Commands.{Command, Reply}
use Rattle.meaning.specs.embedding.Machine.{Embedding}
use Rattle.meaning.specs.execution.Runs.{Answer}
use Rattle.meaning.specs.execution.Store.{Store}
use Rattle.meaning.specs.scripts.Dialogues.{Dialogue, Asks, IsForMemory}
use Rattle.soundness.specs.Headline.{AppliesWell}
use Rattle.embed.specs.Replies.{reply_of}
use Rattle.embed.specs.declared.commands.Reply.{Reply as GivenReply}
use Rattle.scripts.specs.declared.faults.ScriptFault.{ScriptFault}
use Rattle.scripts.specs.declared.faults.ScriptFault.TheVariants.{OutOfMemory}

module _ {H : Type 0} (HostStep : List H → ℕ → Option ℕ → List Val → Store → Answer → Store
    → List H → Type 0) where
  -- A dialogue and an embedding lead to this rest of the dialogue and this embedding. Each command goes well, and no reply states that
  -- memory ran out.
  pub data Converses : Dialogue → Embedding H → Dialogue → Embedding H → Type 0 where
    nothing : {at : Dialogue} {embedding : Embedding H} → Converses at embedding at embedding
    asked : {command : Command} {next : Reply → Dialogue} (reply : Reply)
        {old between new : Embedding H} {left : Dialogue}
        → AppliesWell HostStep old command reply between → (IsForMemory reply → ⊥)
        → Converses (next reply) between left new
        → Converses (Asks command next) old left new

  -- A dialogue that is broken off because memory ran out: the last reply states so, or the runner itself ran out.
  pub data BreaksOff : Dialogue → Embedding H → Embedding H → Type 0 where
    here : {at : Dialogue} {embedding : Embedding H} → BreaksOff at embedding embedding
    lacked : {command : Command} {next : Reply → Dialogue} (reply : Reply) {old new : Embedding H}
        → AppliesWell HostStep old command reply new → IsForMemory reply
        → BreaksOff (Asks command next) old new
    went_on : {command : Command} {next : Reply → Dialogue} (reply : Reply)
        {old between new : Embedding H}
        → AppliesWell HostStep old command reply between → (IsForMemory reply → ⊥)
        → BreaksOff (next reply) between new
        → BreaksOff (Asks command next) old new

  -- A part of a dialogue, whose rest depends on the result of the part: it was held, or broken off.
  abbrev pub Holds : {T A : Type 0} → (T → A) → ((A → Dialogue) → Dialogue) → Embedding H
      → Result T ScriptFault → Embedding H → Type 0
  Holds see part old (Ok found) new =
      (next : _ → Dialogue) → Converses (part next) old (next (see found)) new
  Holds see part old (Err fault) new =
      (fault ≡ OutOfMemory) × ((next : _ → Dialogue) → BreaksOff (part next) old new)

-- A reply is taken, unless it states that memory ran out.
abbrev pub TakesReply : GivenReply → Result GivenReply ScriptFault → Type 0
TakesReply reply (Ok taken) = (taken ≡ reply) × (IsForMemory (reply_of reply) → ⊥)
TakesReply reply (Err fault) = (fault ≡ OutOfMemory) × IsForMemory (reply_of reply)
