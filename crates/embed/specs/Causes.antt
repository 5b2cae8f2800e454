-- Why commands are refused, by the results of the layers below.
use Rattle.std.specs.Prelude.{◌≡◌, List, ℕ, Some, None, slice_get, take}
use Rattle.core_types.specs.declared.module.Import.{Import}
use Rattle.core_types.specs.declared.module.Module.{Module}
use Rattle.core_types.specs.declared.outcome.Extern.{Extern}
use Rattle.meaning.specs.embedding.Machine.{Embedding, IsDecoded, resolve_imports}
use Rattle.meaning.specs.embedding.Names.{NamesContents, resolve_name}
use Rattle.meaning.specs.execution.Store.{Store}
use Rattle.meaning.specs.validation.Modules.{IsValid}
use Rattle.binary.specs.declared.errors.DecodeError.{DecodeError}
use Rattle.binary.specs.declared.errors.DecodeError.TheVariants as decode
use Rattle.instantiate.specs.Links.{IsMismatch}
use Rattle.instantiate.specs.declared.link_end.LinkRefusal.{LinkRefusal}
use Rattle.instantiate.specs.declared.link_end.LinkRefusal.TheVariants as link
use Rattle.linker.specs.declared.refusals.NameRefusal.{NameRefusal}
use Rattle.linker.specs.declared.refusals.NameRefusal.TheVariants as name
use Rattle.validator.specs.declared.errors.Place.{Place}
use Rattle.validator.specs.declared.errors.ValidateError.{ValidateError}
use Rattle.validator.specs.declared.errors.ValidateError.TheVariants as validate
use Rattle.embed.specs.declared.refusals.Refusal.{Refusal}
use Rattle.embed.specs.declared.refusals.Refusal.TheVariants.{Malformed, Unsupported, Limit, Invalid, UnknownImport, IncompatibleImport, NameTaken, OutOfMemory}

abbrev pub decode_refusal : DecodeError → Refusal
decode_refusal (decode.Malformed offset) = Malformed offset
decode_refusal (decode.Unsupported offset) = Unsupported offset
decode_refusal decode.Limit = Limit
decode_refusal decode.OutOfMemory = OutOfMemory

abbrev pub validate_refusal : ValidateError → Refusal
validate_refusal (validate.Invalid place) = Invalid place
validate_refusal validate.OutOfMemory = OutOfMemory

abbrev pub link_refusal : LinkRefusal → Refusal
link_refusal link.Limit = Limit
link_refusal (link.UnknownImport index) = UnknownImport index
link_refusal (link.IncompatibleImport index) = IncompatibleImport index
link_refusal link.OutOfMemory = OutOfMemory

abbrev pub name_refusal : NameRefusal → Refusal
name_refusal name.NameTaken = NameTaken
name_refusal name.OutOfMemory = OutOfMemory

-- Why bytes are refused.
pub data RefusesBytes (bytes : List ℕ) (refusal : Refusal) : Type 0 where
  malformed : (offset : ℕ) → ((m : Module) → IsDecoded bytes m → ⊥) → refusal ≡ Malformed offset
      → RefusesBytes bytes refusal
  unsupported : (offset : ℕ) → ((m : Module) → IsDecoded bytes m → ⊥)
      → refusal ≡ Unsupported offset → RefusesBytes bytes refusal
  limit : ((m : Module) → IsDecoded bytes m → ⊥) → refusal ≡ Limit → RefusesBytes bytes refusal
  invalid : (place : Place) (m : Module) → IsDecoded bytes m → (IsValid m → ⊥)
      → refusal ≡ Invalid place → RefusesBytes bytes refusal
  no_memory : refusal ≡ OutOfMemory → RefusesBytes bytes refusal

-- The names of the import of this index stand for nothing, and those of each import before it for something.
pub record IsUnknownImport (store : Store) (names : NamesContents) (imports : List Import)
    (index : ℕ) : Type 0 where
  pub wanted : Import
  pub wanted_is : slice_get imports index ≡ Some wanted
  pub unknown : resolve_name store names wanted.module_name wanted.name ≡ None
  pub found : List Extern
  pub before : resolve_imports store names (take index imports) ≡ Some found

-- Why there is nothing to link imports to: one is unknown, or memory ran out.
pub data IsUnresolved (store : Store) (names : NamesContents) (imports : List Import)
    (refusal : Refusal) : Type 0 where
  missing : (index : ℕ) → IsUnknownImport store names imports index
      → resolve_imports store names imports ≡ None → refusal ≡ UnknownImport index
      → IsUnresolved store names imports refusal
  no_memory : refusal ≡ OutOfMemory → IsUnresolved store names imports refusal

-- If the link of a module is refused for an import, that import is the first one at fault.
abbrev pub IsFirstAtFault : {H : Type 0} → Embedding H → (number : ℕ) → Refusal → Type 0
IsFirstAtFault at number (UnknownImport index) =
    (m : Module) × (slice_get at.modules number ≡ Some m)
    × IsUnknownImport at.state.store at.names m.imports index
IsFirstAtFault at number (IncompatibleImport index) =
    (m : Module) × (slice_get at.modules number ≡ Some m) × (given : List Extern)
    × (resolve_imports at.state.store at.names m.imports ≡ Some given)
    × IsMismatch at.state.store m given index
IsFirstAtFault at number refusal = Unit {0}
