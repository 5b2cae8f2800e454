-- Dialogues: the commands to an embedding, where each one can depend on the replies before it.
use Rattle.std.specs.Prelude.{ℕ, List, [], ◌∷◌}
use Rattle.meaning.specs.embedding.Commands.{Command, Reply, Ended, Refused, OutOfMemory}
use Rattle.meaning.specs.execution.Runs.{OutOfMemory as LacksMemory}

-- The result of a script: how many commands passed, failed and were skipped, and the lines of those that failed, in order.
pub record Report : Type 0 where
  pub passed : ℕ
  pub failed : ℕ
  pub skipped : ℕ
  pub failures : List ℕ

-- The dialogue is over, with a report, or it sends a command, and what follows depends on the reply.
pub data Dialogue : Type 0 where
  Over : Report → Dialogue
  Asks : Command → (Reply → Dialogue) → Dialogue

-- A reply that states that memory ran out.
abbrev pub IsForMemory : Reply → Type 0
IsForMemory (Refused OutOfMemory) = Unit {0}
IsForMemory (Ended LacksMemory) = Unit {0}
IsForMemory reply = ⊥

-- The dialogue was held to its end with these commands and replies, none of which states that memory ran out, and came to this report.
pub data Holds : Dialogue → List Command → List Reply → Report → Type 0 where
  over : {report : Report} → Holds (Over report) [] [] report
  asks : {command : Command} {next : Reply → Dialogue} {reply : Reply} {commands : List Command}
      {replies : List Reply} {report : Report}
      → (IsForMemory reply → ⊥) → Holds (next reply) commands replies report
      → Holds (Asks command next) (command ∷ commands) (reply ∷ replies) report

-- The dialogue began with these commands and replies, of which only the last may state that memory ran out.
pub data Begins : Dialogue → List Command → List Reply → Type 0 where
  nothing : {at : Dialogue} → Begins at [] []
  lacks : {command : Command} {next : Reply → Dialogue} {reply : Reply}
      → IsForMemory reply → Begins (Asks command next) (command ∷ []) (reply ∷ [])
  asks : {command : Command} {next : Reply → Dialogue} {reply : Reply} {commands : List Command}
      {replies : List Reply}
      → (IsForMemory reply → ⊥) → Begins (next reply) commands replies
      → Begins (Asks command next) (command ∷ commands) (reply ∷ replies)
