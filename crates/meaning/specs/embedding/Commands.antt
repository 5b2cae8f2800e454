-- Commands to an embedding and its replies, which are this project's own (after the Appendix, Embedding).
use Rattle.std.specs.Prelude.{ℕ, List}
use Rattle.core_types.specs.declared.outcome.Val.{Val}
use Rattle.meaning.specs.execution.Runs.{Ending}

-- Modules and instances are named by their numbers, exports and registered instances by the bytes of their names.
pub data Command : Type 0 where
  Load : (bytes : List ℕ) → Command
  Link : (number : ℕ) → Command
  Register : (number : ℕ) (name : List ℕ) → Command
  Call : (number : ℕ) (name : List ℕ) (arguments : List Val) → Command
  GetGlobal : (number : ℕ) (name : List ℕ) → Command
  SetFuel : (fuel : ℕ) → Command

-- Why a command is refused.
pub data Refusal : Type 0 where
  -- the bytes encode no module that is within the limits
  Malformed : Refusal
  Unsupported : Refusal
  Limit : Refusal
  -- no typing accepts the module
  Invalid : Refusal
  UnknownModule : Refusal
  -- a name of an import stands for nothing
  UnknownImport : Refusal
  -- what the names of an import stand for does not match it
  IncompatibleImport : Refusal
  UnknownInstance : Refusal
  UnknownExport : Refusal
  -- the export is not a function, or not a global
  WrongKind : Refusal
  -- too many or too few, or one that does not have its type
  BadArguments : Refusal
  -- a host function is defined under the name
  NameTaken : Refusal
  OutOfMemory : Refusal

pub data Reply : Type 0 where
  -- a module has this number
  Loaded : (number : ℕ) → Reply
  -- an instance has this number
  Linked : (number : ℕ) → Reply
  Done : Reply
  -- a run ended like this
  Ended : (ending : Ending) → Reply
  Refused : (refusal : Refusal) → Reply
