-- An instance of a module, by its number.
use Rattle.std.proofs.Common.{◌≡◌, ℕ, sym, ap, ◌∙◌}
use Rattle.std.specs.Prelude.{Option, Some, option_map, slice_get, unwrap_or}
use Rattle.std.proofs.lemmas.Option.{slice_get-map}
use Rattle.core_types.specs.declared.module.Module.{Module}
use Rattle.meaning.specs.execution.Store.{ModuleInstance, instance_of, no_instance}
use Rattle.store.specs.Contents.{AddressLists, Contents, code_store, lists_of, module_instance, module_instance_of}
use Rattle.store.specs.declared.instances.Instance.{Instance}
use Rattle.instantiate.specs.Tasks.{HasInstance}

-- The addresses of an instance.
abbrev pub addresses_in : ModuleInstance → AddressLists
addresses_in i = record {
  functions = i.functions;
  tables = i.tables;
  memories = i.memories;
  globals = i.globals;
  elements = i.elements;
  datas = i.datas;
}

-- An instance of a module has the addresses that are kept, and the module's types and exports.
pub found-instance : (code : Contents) (number : ℕ) (m : Module) (found : Instance) → HasInstance code number m → slice_get code.instances number
    ≡ Some found → module_instance (lists_of found.addresses) m ≡ instance_of (code_store code) (Some number)
found-instance code number m found (addresses, there) kept =
    let mapped : Some (module_instance_of found)
    ≡ Some (module_instance addresses m) =
    (sym (slice_get-map module_instance_of code.instances number ∙ ap (option_map module_instance_of) kept) ∙ there) in
    let same : module_instance_of found ≡ module_instance addresses m = ap (λ (o : Option ModuleInstance). unwrap_or o no_instance) mapped in
    ap (λ (i : ModuleInstance). module_instance (addresses_in i) m) same ∙ sym (ap (λ (o : Option ModuleInstance). unwrap_or o no_instance) there)
