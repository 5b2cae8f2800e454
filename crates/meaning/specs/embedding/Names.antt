-- Names, by which imports are found: host functions by two names, and registered instances, whose exports have names.
use Rattle.std.specs.Prelude.{ℕ, List, [], ◌∷◌, Option, Some, IsSome, option_map, option_and_then, unwrap_or, slice_get, if◌then◌else◌, bytes_eq}
use Rattle.std.specs.List.{find}
use Rattle.std.specs.Map.{lookup}
use Rattle.std.specs.Option.{option_or}
use Rattle.core_types.specs.declared.module.Export.{Export}
use Rattle.core_types.specs.declared.module.ExportDesc.{ExportDesc}
use Rattle.core_types.specs.declared.module.ExportDesc.TheVariants as export
use Rattle.core_types.specs.declared.outcome.Extern.{Extern}
use Rattle.core_types.specs.declared.outcome.Extern.TheVariants as value
use Rattle.meaning.specs.execution.Store.{ModuleInstance, Store, instance_of}

-- ---- what is under names

-- The item under a name, if there is one.
abbrev pub under : {T : Type 0} → List (List ℕ × T) → (name : List ℕ) → Option T
under items name = lookup (bytes_eq name) items

-- The items with this one under a name. It replaces the one that is there, or else is added after all others.
abbrev pub put_under : {T : Type 0} → List (List ℕ × T) → (name : List ℕ) → T → List (List ℕ × T)
put_under [] name item = (name, item) ∷ []
put_under (first ∷ others) name item =
    if bytes_eq name first.0 then (first.0, item) ∷ others else first ∷ put_under others name item

-- ---- host functions and registered instances

-- The addresses of host functions, under the name of a module and a name in it, and the numbers of instances, each under a name.
pub record NamesContents : Type 0 where
  pub hosts : List (List ℕ × List (List ℕ × ℕ))
  pub registered : List (List ℕ × ℕ)

abbrev pub no_names : NamesContents
no_names = record { hosts = []; registered = [] }

-- Host functions are defined under the name of a module. The name is added with the first of them.
abbrev pub HasHosts : NamesContents → (module_name : List ℕ) → Type 0
HasHosts names module_name = IsSome (under names.hosts module_name)

-- The host functions under the name of a module, or an empty list if there are none.
abbrev pub hosts_of : NamesContents → (module_name : List ℕ) → List (List ℕ × ℕ)
hosts_of names module_name = unwrap_or (under names.hosts module_name) []

-- The host function under two names, if there is one.
abbrev pub host_of : NamesContents → (module_name name : List ℕ) → Option ℕ
host_of names module_name name = under (hosts_of names module_name) name

-- The names with a host function under two names.
abbrev pub with_host : NamesContents → (module_name name : List ℕ) → (address : ℕ) → NamesContents
with_host names module_name name address = record names {
  hosts = put_under names.hosts module_name (put_under (hosts_of names module_name) name address);
}

-- The names with an instance registered under a name. It replaces the one that was.
abbrev pub with_instance : NamesContents → (name : List ℕ) → (instance : ℕ) → NamesContents
with_instance names name instance =
    record names { registered = put_under names.registered name instance }

-- ---- exports

-- What an export refers to, by its address in the store (Execution, Runtime Structure, Export Instances).
abbrev pub extern_of : ModuleInstance → ExportDesc → Option Extern
extern_of instance (export.Func x) = option_map value.Func (slice_get instance.functions x)
extern_of instance (export.Table x) = option_map value.Table (slice_get instance.tables x)
extern_of instance (export.Memory x) = option_map value.Memory (slice_get instance.memories x)
extern_of instance (export.Global x) = option_map value.Global (slice_get instance.globals x)

-- What an instance exports under a name, if it exports something. The names of its exports differ.
abbrev pub export_of : ModuleInstance → (name : List ℕ) → Option Extern
export_of instance name =
    option_and_then (λ (e : Export). extern_of instance e.desc)
    (find (λ (e : Export). bytes_eq e.name name) instance.exports)

-- What the instance that is registered under the name of a module exports under a name.
abbrev pub registered_export : Store → NamesContents → (module_name name : List ℕ) → Option Extern
registered_export store names module_name name =
    option_and_then (λ instance. export_of (instance_of store (Some instance)) name)
    (under names.registered module_name)

-- What two names stand for: the host function under them, or else what the registered instance exports.
abbrev pub resolve_name : Store → NamesContents → (module_name name : List ℕ) → Option Extern
resolve_name store names module_name name =
    option_or (option_map value.Func (host_of names module_name name))
    (registered_export store names module_name name)
