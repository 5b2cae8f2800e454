-- Conversations that continue, break off and come to their end.
use Rattle.std.proofs.Common.{◌≡◌, ℕ, List, [], ◌∷◌, refl, sym, subst}
use Rattle.std.specs.Prelude.{IfErr, IfOk, Option, Result, Ok, Err}
use Rattle.std.specs.Result.{IsErrAnd}
use Rattle.core_types.specs.declared.outcome.Val.{Val}
use Rattle.meaning.specs.embedding.Commands.{Command, Done, Reply, SetFuel}
use Rattle.meaning.specs.embedding.Machine.{Embedding}
use Rattle.meaning.specs.execution.Runs.{Answer}
use Rattle.meaning.specs.execution.Store.{Store}
use Rattle.meaning.specs.scripts.Commands.{Files, Skipped, Task, Tried}
use Rattle.meaning.specs.scripts.Dialogues.{Dialogue, Asks, IsForMemory, Over, Report}
use Rattle.meaning.specs.scripts.Dialogues as dialogue
use Rattle.meaning.specs.scripts.Runner.{Progress, after_skipped, after_tried, ask, linking, turn}
use Rattle.soundness.specs.Headline.{AppliesWell}
use Rattle.soundness.proofs.Embedding.{none-well, one-before-well}
use Rattle.embed.specs.Replies.{reply_of}
use Rattle.embed.specs.declared.commands.Reply.{Reply as GivenReply}
use Rattle.embed.specs.declared.commands.Reply.TheVariants as answer
use Rattle.scripts.specs.Conversations.{Converses, BreaksOff, Holds, TakesReply, nothing, asked, here, lacked, went_on}
use Rattle.scripts.specs.Runs.{IsHeld, IsBegun}
use Rattle.scripts.specs.declared.faults.ScriptFault.{ScriptFault}
use Rattle.scripts.specs.declared.faults.ScriptFault.TheVariants.{OutOfMemory}

module _ {H : Type 0} (HostStep : List H → ℕ → Option ℕ → List Val → Store → Answer → Store → List H → Type 0) where
  pub converses-on : {first second third : Dialogue} {old between new : Embedding H} → Converses HostStep first old second between
      → Converses HostStep second between third new → Converses HostStep first old third new
  converses-on nothing later = later
  converses-on (asked reply applied has rest) later = asked reply applied has (converses-on rest later)

  pub breaks-later : {first second : Dialogue} {old between new : Embedding H} → Converses HostStep first old second between
      → BreaksOff HostStep second between new → BreaksOff HostStep first old new
  breaks-later nothing later = later
  breaks-later (asked reply applied has rest) later = went_on reply applied has (breaks-later rest later)

  -- ---- one command

  pub told : {command : Command} {old new : Embedding H} (reply : GivenReply) → AppliesWell HostStep old command (reply_of reply) new → (IsForMemory (reply_of reply) → ⊥)
      → Holds HostStep reply_of (Asks command) old (Ok reply) new
  told reply applied has = λ next. asked (reply_of reply) applied has nothing

  pub taken : {command : Command} {old new : Embedding H} (reply : GivenReply) (result : Result GivenReply ScriptFault) → AppliesWell HostStep old command (reply_of reply) new
      → TakesReply reply result → Holds HostStep reply_of (Asks command) old result new
  taken reply (Ok found) applied takes = rw takes.0 (told reply applied takes.1)
  taken reply (Err fault) applied takes = (takes.0, λ next. lacked (reply_of reply) applied takes.1)

  -- The result must be put into a reply, for which memory may run out.
  pub answered : {command : Command} {old new : Embedding H} (said : Reply) (result : Result GivenReply ScriptFault) → AppliesWell HostStep old command said new → (IsForMemory said → ⊥)
      → IfOk result (λ reply. reply_of reply ≡ said) → IfErr result (λ fault. fault ≡ OutOfMemory) → Holds HostStep reply_of (Asks command) old result new
  answered said (Ok reply) applied has is fails = told reply (rw is applied) (rw is has)
  answered said (Err fault) applied has is fails = (fails, λ next. went_on said applied has here)

  -- ---- one part after another

  module _ {T U A B : Type 0} (see : T → A) (see' : U → B) (first : (A → Dialogue) → Dialogue) (second : A → (B → Dialogue) → Dialogue) {old : Embedding H} where
    pub holds-on : (found : T) (result : Result U ScriptFault) {between : Embedding H} (new : Embedding H) → Holds HostStep see first old (Ok found) between
        → Holds HostStep see' (second (see found)) between result new → Holds HostStep see' (λ next. first (λ a. second a next)) old result new
    holds-on found (Ok u) new said more = λ next. converses-on (said (λ a. second a next)) (more next)
    holds-on found (Err fault) new said more = (more.0, λ next. breaks-later (said (λ a. second a next)) (more.1 next))

  -- ---- a part that is broken off

  module _ {T A : Type 0} (see : T → A) (told : (A → Dialogue) → Dialogue) where
    pub broken : {P : ScriptFault → Type 0} (result : Result T ScriptFault) (old new : Embedding H) → IsErrAnd result P → ((fault : ScriptFault) → P fault → fault ≡ OutOfMemory)
        → ((next : A → Dialogue) → BreaksOff HostStep (told next) old new) → Holds HostStep see told old result new
    broken (Ok found) old new failed is breaks = absurd failed
    broken (Err fault) old new failed is breaks = (is fault failed, breaks)

  -- ---- a command that is skipped

  pub skipped-holds : (fuel : ℕ) (files : Files) (at left : Progress) (embedding : Embedding H) → left ≡ after_skipped at → (next : Progress → Dialogue)
      → Converses HostStep (turn fuel files Skipped at next) embedding (next left) embedding
  skipped-holds fuel files at left embedding is next =
      subst (λ (p : Progress). Converses HostStep (next (after_skipped at)) embedding (next p) embedding) (sym is) nothing

  -- ---- a task that is tried

  pub telling-breaks : (fuel : ℕ) (files : Files) (at : Progress) (line : ℕ) (task : Task) {old between new : Embedding H}
      → AppliesWell HostStep old (SetFuel fuel) Done between → ((next : Reply → Dialogue) → BreaksOff HostStep (ask files at.instances task next) between new)
      → (next : Progress → Dialogue) → BreaksOff HostStep (turn fuel files (Tried line task) at next) old new
  telling-breaks fuel files at line task set breaks next = went_on Done set (λ lacks. lacks) (breaks (λ r. next (after_tried at line task r)))

  module _ {T : Type 0} (see : T → Reply) (fuel : ℕ) (files : Files) (at : Progress) (line : ℕ) (task : Task) (reply : T) {old between new : Embedding H}
      (set : AppliesWell HostStep old (SetFuel fuel) Done between) (held : Holds HostStep see (ask files at.instances task) between (Ok reply) new) where
    pub tried-holds : (left : Progress) → left ≡ after_tried at line task (see reply) → (next : Progress → Dialogue)
        → Converses HostStep (turn fuel files (Tried line task) at next) old (next left) new
    tried-holds left is next =
        subst (λ (p : Progress). Converses HostStep (turn fuel files (Tried line task) at next) old (next p) new) (sym is)
        (asked Done set (λ lacks. lacks) (held (λ r. next (after_tried at line task r))))

    pub tried-breaks : (next : Progress → Dialogue) → BreaksOff HostStep (turn fuel files (Tried line task) at next) old new
    tried-breaks next = went_on Done set (λ lacks. lacks) (breaks-later (held (λ r. next (after_tried at line task r))) here)

  -- ---- to the end

  pub held-to-end : {at left : Dialogue} {old new : Embedding H} → Converses HostStep at old left new → (report : Report) → left ≡ Over report → IsHeld HostStep at old report new
  held-to-end nothing report is = rw is (record { commands = []; replies = []; applied = none-well HostStep _; held = dialogue.over })
  held-to-end (asked {command = c} r applied has rest) report is =
      let later = held-to-end rest report is in
      record { commands = c ∷ later.commands; replies = r ∷ later.replies; applied = one-before-well HostStep applied later.applied; held = dialogue.Holds.asks has later.held }

  pub broken-off : {at : Dialogue} {old new : Embedding H} → BreaksOff HostStep at old new → IsBegun HostStep at old new
  broken-off here = record { commands = []; replies = []; applied = none-well HostStep _; begun = dialogue.nothing }
  broken-off (lacked {command = c} r applied lacks) = record { commands = c ∷ []; replies = r ∷ []; applied = one-before-well HostStep applied (none-well HostStep _); begun = dialogue.lacks lacks }
  broken-off (went_on {command = c} r applied has rest) =
      let later = broken-off rest in
      record { commands = c ∷ later.commands; replies = r ∷ later.replies; applied = one-before-well HostStep applied later.applied; begun = dialogue.Begins.asks has later.begun }

-- ---- replies to a load

pub linking-other : (reply : GivenReply) → ((number : ℕ) → reply ≡ answer.Loaded number → ⊥) → (next : Reply → Dialogue) → linking (reply_of reply) next ≡ next (reply_of reply)
linking-other (answer.Loaded number) other next = absurd (other number refl)
linking-other (answer.Linked number) other next = refl
linking-other answer.Done other next = refl
linking-other (answer.Values values) other next = refl
linking-other (answer.Trap trap) other next = refl
linking-other (answer.Exhausted what) other next = refl
linking-other (answer.Refused refusal) other next = refl
