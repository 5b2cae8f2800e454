-- The answer of a server to an order once there is an embedding, and what the order leaves.
use Rattle.std.specs.Prelude.{◌≡◌, ◌⊎◌, ℕ, List, [], ◌∷◌, ◌++◌, Ok, Err, String, Vec, slice_get}
use Rattle.std.specs.declared.alloc.Global.{Global as Allocator}
use Rattle.embed.specs.Exports.{IsRefusedExport, IsRefusedList, IsRefusedModule, imports_in, module_exports_in, named_export}
use Rattle.embed.specs.Replies.{reply_of}
use Rattle.embed.specs.declared.refusals.Refusal.TheVariants.{OutOfMemory}
use Rattle.hostfunc.specs.Boxes.{HostStep}
use Rattle.hostfunc.specs.declared.host_function.HostFn.{Ghosts}
use Rattle.hostfunc.specs.declared.host_object.HostObject.{HostObject}
use Rattle.interface.specs.Listings.{AreExports, AreImports}
use Rattle.meaning.specs.embedding.Commands as machine
use Rattle.meaning.specs.embedding.Machine.{Embedding, exports_at}
use Rattle.meaning.specs.execution.Runs.{WithValues}
use Rattle.meaning.specs.scripts.Commands.{ScriptCommand, files_in}
use Rattle.orders.specs.Orders as order
use Rattle.soundness.specs.Headline.{AppliesWell}
use Rattle.scripts.specs.Faults.{ReadsScript}
use Rattle.scripts.specs.Runs.{Runs, files_view}
use Rattle.answers.specs.declared.answer.Answer.{Answer}
use Rattle.answers.specs.declared.answer.Answer.TheVariants.{Done, Applied, Global, FuelLeft, QuotaLeft, Exports, Imports, Ran, Refused, NotNow}
use Rattle.answers.specs.declared.causes.Cause.TheVariants.{Command, Script}

-- A file is appended, a script takes all files, and other orders leave them.
abbrev pub LeavesFiles : List (String Allocator × Vec ℕ Allocator) → order.Order → Answer
    → List (String Allocator × Vec ℕ Allocator) → Type 0
LeavesFiles old (order.File name bytes) Done new =
    files_view new ≡ files_view old ++ (name, bytes) ∷ []
LeavesFiles old (order.File name bytes) answer new = new ≡ old
LeavesFiles old (order.RunScript text) answer new = new ≡ []
LeavesFiles old order answer new = new ≡ old

-- The answer to a command is the reply of the embedding machine. The value of a global is one that a run ended with.
abbrev pub IsReply : Answer → machine.Reply → Type 0
IsReply (Applied reply) reply' = reply' ≡ reply_of reply
IsReply (Global value) reply' = reply' ≡ machine.Ended (WithValues (value ∷ []))
IsReply answer reply' = ⊥

module _ {I : Type 0} {F : I → Type 0} (members : (i : I) → Ghosts (F i)) where
  -- The file is appended, or memory ran out.
  abbrev pub IsAdded : Answer → Type 0
  IsAdded Done = Unit {0}
  IsAdded (Refused cause) = cause ≡ Command OutOfMemory
  IsAdded answer = ⊥

  -- The exports of an instance are listed, or the list is refused.
  abbrev pub ListsExports : Embedding (HostObject I F) → (instance : ℕ) → Answer → Type 0
  ListsExports old instance (Exports found) = AreExports found (exports_at old instance)
  ListsExports old instance (Refused (Command refusal)) = IsRefusedList old instance refusal
  ListsExports old instance answer = ⊥

  -- The export of a name is returned, or refused as a command that asks for it would be.
  abbrev pub GivesExport : Embedding (HostObject I F) → (instance : ℕ) → (name : List ℕ) → Answer
      → Type 0
  GivesExport old instance name (Exports found) = AreExports found (named_export old instance name)
  GivesExport old instance name (Refused (Command refusal)) =
      IsRefusedExport old instance name refusal
  GivesExport old instance name answer = ⊥

  -- The imports or the exports of a module are listed, or the list is refused.
  abbrev pub ListsModuleImports : Embedding (HostObject I F) → (number : ℕ) → Answer → Type 0
  ListsModuleImports old number (Imports found) =
      AreImports found (imports_in (slice_get old.modules number))
  ListsModuleImports old number (Refused (Command refusal)) = IsRefusedModule old number refusal
  ListsModuleImports old number answer = ⊥

  abbrev pub ListsModuleExports : Embedding (HostObject I F) → (number : ℕ) → Answer → Type 0
  ListsModuleExports old number (Exports found) =
      AreExports found (module_exports_in (slice_get old.modules number))
  ListsModuleExports old number (Refused (Command refusal)) = IsRefusedModule old number refusal
  ListsModuleExports old number answer = ⊥

  -- The script is that of the text, and is run with the files that were kept. Or it is not read, and nothing changes. Or it is not run to
  -- its end.
  abbrev pub RunsText : List (String Allocator × Vec ℕ Allocator) → (text : List ℕ)
      → Embedding (HostObject I F) → Answer → Embedding (HostObject I F) → Type 0
  RunsText files text old (Ran report) new = (script : List ScriptCommand)
      × ReadsScript text (Ok script)
      × Runs members script (files_in (files_view files)) old (Ok report) new
  RunsText files text old (Refused (Script fault)) new =
      (ReadsScript text (Err fault) × (new ≡ old)) ⊎ ((script : List ScriptCommand)
      × ReadsScript text (Ok script)
      × Runs members script (files_in (files_view files)) old (Err fault) new)
  RunsText files text old answer new = ⊥

  -- A command is applied once, as the embedding machine applies it, and goes well. Other orders except scripts change nothing. Orders
  -- that come too late get the answer `NotNow`, and so does an order to explain the one before, which is not known here.
  abbrev pub Obeys : List (String Allocator × Vec ℕ Allocator) → Embedding (HostObject I F)
      → order.Order → Answer → Embedding (HostObject I F) → Type 0
  Obeys files old (order.Apply command) answer new = (reply : machine.Reply)
      × IsReply answer reply × AppliesWell (HostStep members) old command reply new
  Obeys files old order.FuelLeft answer new = (answer ≡ FuelLeft old.state.fuel) × (new ≡ old)
  Obeys files old (order.Exports instance) answer new =
      ListsExports old instance answer × (new ≡ old)
  Obeys files old (order.NamedExport instance name) answer new =
      GivesExport old instance name answer × (new ≡ old)
  Obeys files old (order.RunScript text) answer new = RunsText files text old answer new
  Obeys files old (order.File name bytes) answer new = IsAdded answer × (new ≡ old)
  Obeys files old order.End answer new = (answer ≡ Done) × (new ≡ old)
  Obeys files old (order.Define first second signature) answer new =
      (answer ≡ NotNow) × (new ≡ old)
  Obeys files old (order.Begin setup) answer new = (answer ≡ NotNow) × (new ≡ old)
  Obeys files old (order.Quota bytes) answer new = (answer ≡ NotNow) × (new ≡ old)
  Obeys files old order.QuotaLeft answer new =
      ((bytes : ℕ) × (answer ≡ QuotaLeft bytes)) × (new ≡ old)
  Obeys files old (order.ModuleImports number) answer new =
      ListsModuleImports old number answer × (new ≡ old)
  Obeys files old (order.ModuleExports number) answer new =
      ListsModuleExports old number answer × (new ≡ old)
  Obeys files old order.Explain answer new = (answer ≡ NotNow) × (new ≡ old)
