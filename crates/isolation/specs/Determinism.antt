-- Replies are a function of the commands, if host functions are functions.
use Rattle.std.specs.Prelude.{◌≡◌, ℕ, ◌⊎◌, List, [], ◌∷◌, Option, Ok}
use Rattle.std.specs.List.{All}
use Rattle.core_types.specs.declared.module.Module.{Module}
use Rattle.core_types.specs.declared.outcome.Extern.{Extern}
use Rattle.core_types.specs.declared.outcome.Val.{Val}
use Rattle.core_types.specs.declared.types.FuncType.{FuncType}
use Rattle.meaning.specs.embedding.Commands.{Command, Load, Link, Register, Call, GetGlobal, SetFuel, Reply, Ended, Refused}
use Rattle.meaning.specs.embedding.Commands as refusal
use Rattle.meaning.specs.embedding.Creation.{Creates, HostDefinition}
use Rattle.meaning.specs.embedding.Machine.{Applies, AppliesAll, Embedding, IsOfBytes, Setup}
use Rattle.meaning.specs.execution.Configurations.{Configuration, Frame}
use Rattle.meaning.specs.execution.Hosts.{IsHostStep}
use Rattle.meaning.specs.execution.Modules.{Instantiation}
use Rattle.meaning.specs.execution.Runs.{Answer, Ending, OutOfMemory, Run, State}
use Rattle.meaning.specs.execution.Store.{Store}
use Rattle.isolation.specs.Hosts.{AnswersBy, Behaviour}

-- ---- replies

-- The reply is not that memory ran out, in a run or for the command itself.
pub record HadMemory (reply : Reply) : Type 0 where
  pub run : reply ≡ Ended OutOfMemory → ⊥
  pub command : reply ≡ Refused refusal.OutOfMemory → ⊥

-- The bytes are refused: they encode no module within the limits.
pub data RefusesTheBytes (reply : Reply) : Type 0 where
  refused : {why : refusal.Refusal} → IsOfBytes why → reply ≡ Refused why → RefusesTheBytes reply

-- The same reply to a command. Bytes that encode no module within the limits are refused in both, but which of `Malformed`,
-- `Unsupported` and `Limit` is given is unspecified.
abbrev pub IsSameReply : Command → Reply → Reply → Type 0
IsSameReply (Load bytes) a b = (a ≡ b) ⊎ (RefusesTheBytes a × RefusesTheBytes b)
IsSameReply (Link number) a b = a ≡ b
IsSameReply (Register number name) a b = a ≡ b
IsSameReply (Call number name arguments) a b = a ≡ b
IsSameReply (GetGlobal number name) a b = a ≡ b
IsSameReply (SetFuel fuel) a b = a ≡ b

-- The same replies to commands, one by one.
abbrev pub AreSameReplies : List Command → List Reply → List Reply → Type 0
AreSameReplies [] [] [] = Unit {0}
AreSameReplies (command ∷ commands) (a ∷ others) (b ∷ more) =
    IsSameReply command a b × AreSameReplies commands others more
AreSameReplies commands others more = ⊥

-- ---- functions

module _ {H : Type 0} (host_type : H → FuncType)
    (Answers : H → List Val → List ℕ → Answer → List ℕ → H → Type 0) where
  -- The answer and the effects of a host function are a function of its object, its arguments and the bytes that it borrows. Only answers
  -- that leave its type count.
  abbrev pub HostsAreFunctions : Type 0
  HostsAreFunctions = (host : H) (arguments : List Val) (bytes : List ℕ) (a b : Answer)
      (bytes_a bytes_b : List ℕ) (host_a host_b : H)
      → host_type host_a ≡ host_type host → host_type host_b ≡ host_type host
      → Answers host arguments bytes a bytes_a host_a
      → Answers host arguments bytes b bytes_b host_b
      → (a ≡ b) × (bytes_a ≡ bytes_b) × (host_a ≡ host_b)

module _ {H : Type 0} (HostStep : List H → ℕ → Option ℕ → List Val → Store → Answer → Store
    → List H → Type 0) where
  -- Two runs from one state end the same, if neither runs out of memory.
  abbrev pub RunsAreFunctions : Type 0
  RunsAreFunctions = (bound : ℕ) (outside : Frame) (old a b : State H)
      (configuration : Configuration) (ending_a ending_b : Ending)
      → Run HostStep bound outside old configuration ending_a a
      → Run HostStep bound outside old configuration ending_b b
      → (ending_a ≡ OutOfMemory → ⊥) → (ending_b ≡ OutOfMemory → ⊥)
      → (ending_a ≡ ending_b) × (a ≡ b)

  -- So do two links of one module.
  abbrev pub LinksAreFunctions : Type 0
  LinksAreFunctions = (bound : ℕ) (m : Module) (given : List Extern) (old a b : State H)
      (ending_a ending_b : Ending)
      → Instantiation HostStep bound m given old ending_a a
      → Instantiation HostStep bound m given old ending_b b
      → (ending_a ≡ OutOfMemory → ⊥) → (ending_b ≡ OutOfMemory → ⊥)
      → (ending_a ≡ ending_b) × (a ≡ b)

  -- A command has one reply, and leaves one embedding, if memory does not run out.
  abbrev pub CommandsAreFunctions : Type 0
  CommandsAreFunctions = (old a b : Embedding H) (command : Command) (reply_a reply_b : Reply)
      → Applies HostStep old command reply_a a → Applies HostStep old command reply_b b
      → HadMemory reply_a → HadMemory reply_b
      → IsSameReply command reply_a reply_b × (a ≡ b)

  -- And so do consecutive commands.
  abbrev pub CommandListsAreFunctions : Type 0
  CommandListsAreFunctions = (old a b : Embedding H) (commands : List Command)
      (replies_a replies_b : List Reply)
      → AppliesAll HostStep old commands replies_a a → AppliesAll HostStep old commands replies_b b
      → All HadMemory replies_a → All HadMemory replies_b
      → AreSameReplies commands replies_a replies_b × (a ≡ b)

module _ {H : Type 0} (host_type : H → FuncType)
    (Answers : H → List Val → List ℕ → Answer → List ℕ → H → Type 0) where
  -- Two embeddings that are created with the same setup and definitions reply the same to the same commands, and end the same.
  abbrev pub EmbeddingsAreFunctions : Type 0
  EmbeddingsAreFunctions = (setup : Setup) (definitions : List (HostDefinition H))
      (fresh_a fresh_b a b : Embedding H) (commands : List Command)
      (replies_a replies_b : List Reply)
      → Creates host_type setup definitions (Ok fresh_a)
      → Creates host_type setup definitions (Ok fresh_b)
      → AppliesAll (IsHostStep host_type Answers) fresh_a commands replies_a a
      → AppliesAll (IsHostStep host_type Answers) fresh_b commands replies_b b
      → All HadMemory replies_a → All HadMemory replies_b
      → AreSameReplies commands replies_a replies_b × (a ≡ b)

  -- All of these, for host functions by their relations.
  pub record AllAreFunctions : Type 0 where
    pub runs : RunsAreFunctions (IsHostStep host_type Answers)
    pub links : LinksAreFunctions (IsHostStep host_type Answers)
    pub commands : CommandsAreFunctions (IsHostStep host_type Answers)
    pub command_lists : CommandListsAreFunctions (IsHostStep host_type Answers)
    pub embeddings : EmbeddingsAreFunctions

-- For all host functions that are functions.
abbrev pub RepliesAreFunctions : (H : Type 0) → Type 0
RepliesAreFunctions H = (hosts : Behaviour H) → HostsAreFunctions hosts.type (AnswersBy hosts)
    → AllAreFunctions hosts.type (AnswersBy hosts)
