-- What an embedding lists: the exports of an instance, and the imports and exports of a module.
use Rattle.std.specs.Prelude.{◌≡◌, ◌⊎◌, ℕ, List, [], Option, None, Some, Err, option_map, option_to_list, slice_get}
use Rattle.core_types.specs.declared.module.Module.{Module}
use Rattle.core_types.specs.declared.types.ExternType.{ExternType}
use Rattle.interface.specs.Listings.{NamedExport, NamedImport, exports_with_types, imports_with_types}
use Rattle.meaning.specs.embedding.Machine.{Embedding, export_at, export_type}
use Rattle.embed.specs.Replies.{refusal_of}
use Rattle.embed.specs.declared.refusals.Refusal.{Refusal}
use Rattle.embed.specs.declared.refusals.Refusal.TheVariants.{OutOfMemory, UnknownInstance, UnknownModule}

-- The refusal is that of an unknown instance, or an allocation failed.
abbrev pub IsRefusedList : {H : Type 0} → Embedding H → (number : ℕ) → Refusal → Type 0
IsRefusedList at number refusal = (refusal ≡ OutOfMemory)
    ⊎ ((refusal ≡ UnknownInstance) × (slice_get at.instances number ≡ None))

-- The export of a name with its type, if there is one.
abbrev pub named_export : {H : Type 0} → Embedding H → (number : ℕ) → (name : List ℕ)
    → List NamedExport
named_export at number name =
    option_to_list (option_map (λ (ty : ExternType). (name, ty)) (export_type at number name))

-- The refusal is that of a command that asks for the export, or an allocation failed.
abbrev pub IsRefusedExport : {H : Type 0} → Embedding H → (number : ℕ) → (name : List ℕ)
    → Refusal → Type 0
IsRefusedExport at number name refusal =
    (refusal ≡ OutOfMemory) ⊎ (export_at at number name ≡ Err (refusal_of refusal))

-- What a module imports, and what it exports, if there is a module (Appendix, Embedding, Modules).
abbrev pub imports_in : Option Module → List NamedImport
imports_in None = []
imports_in (Some m) = imports_with_types m

abbrev pub module_exports_in : Option Module → List NamedExport
module_exports_in None = []
module_exports_in (Some m) = exports_with_types m

-- The refusal is that of an unknown module, or an allocation failed.
abbrev pub IsRefusedModule : {H : Type 0} → Embedding H → (number : ℕ) → Refusal → Type 0
IsRefusedModule at number refusal = (refusal ≡ OutOfMemory)
    ⊎ ((refusal ≡ UnknownModule) × (slice_get at.modules number ≡ None))
