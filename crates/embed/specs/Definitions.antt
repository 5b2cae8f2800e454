-- Definitions of host functions, in the terms of the embedding machine.
use Rattle.std.specs.Prelude.{◌≡◌, ◌+◌, ◌++◌, ◌∷◌, [], List, None, Some, ℕ, length, map, string_bytes}
use Rattle.meaning.specs.embedding.Creation as machine
use Rattle.meaning.specs.embedding.Creation.{HostDefinition, fault_of, first_fault, store_of_hosts, with_definitions}
use Rattle.meaning.specs.embedding.Names.{NamesContents, no_names, with_host}
use Rattle.hostfunc.specs.Boxes.{declared_type, type_of_host}
use Rattle.hostfunc.specs.declared.host_function.HostFn.{Ghosts}
use Rattle.hostfunc.specs.declared.host_object.HostObject.{HostObject}
use Rattle.hostfunc.specs.Tables.{hosts_in}
use Rattle.store.specs.Contents.{BothParts, host_function, store_of, with_function}
use Rattle.linker.specs.declared.refusals.NameRefusal.{NameRefusal}
use Rattle.linker.specs.declared.refusals.NameRefusal.TheVariants as name
use Rattle.embed.specs.declared.definitions.Defined.{Defined}
use Rattle.embed.specs.declared.host_definitions.HostDef.{HostDef}
use Rattle.embed.specs.declared.new_fault.NewFault.{NewFault}
use Rattle.embed.specs.declared.new_fault.NewFault.TheVariants.{HostFuncRef, NameTaken, OutOfMemory}

abbrev pub fault_in : NewFault → machine.Fault
fault_in HostFuncRef = machine.HostFuncRef
fault_in NameTaken = machine.NameTaken
fault_in OutOfMemory = machine.OutOfMemory

abbrev pub name_fault : NameRefusal → NewFault
name_fault name.NameTaken = NameTaken
name_fault name.OutOfMemory = OutOfMemory

module _ {I : Type 0} {F : I → Type 0} where
  -- A definition is named: its name stands for the next function, which is that of the next host object.
  pub record IsNamed (d : HostDefinition (HostObject I F)) (names names' : NamesContents)
      (store store' : BothParts) : Type 0 where
    pub name : names' ≡ with_host names d.module_name d.name (length (store_of store).functions)
    pub faultless : fault_of type_of_host names d ≡ None
    pub function : store_of store' ≡ with_function (store_of store)
        (host_function (length store.code.hosts) d.host.ty)
    pub counted : length store'.code.hosts ≡ length store.code.hosts + 1

  -- A definition is added: it is named, and its object is the next one.
  pub record TakesIn (old : Defined I F) (d : HostDefinition (HostObject I F)) (new : Defined I F)
      : Type 0 where
    pub named : IsNamed d old.names new.names old.store new.store
    pub object : hosts_in new.hosts ≡ hosts_in old.hosts ++ d.host ∷ []

  -- Definitions are added, and none is at fault. A memory and a table may have this many pages and entries.
  pub record AreTakenIn (pages entries : ℕ) (ds : List (HostDefinition (HostObject I F)))
      (new : Defined I F) : Type 0 where
    pub names : new.names ≡ with_definitions type_of_host no_names 0 ds
    pub faultless : first_fault type_of_host no_names 0 ds ≡ None
    pub store : store_of new.store ≡ store_of_hosts type_of_host pages entries ds
    pub objects : hosts_in new.hosts ≡ map (λ d. d.host) ds

module _ {I : Type 0} {F : I → Type 0} (members : (i : I) → Ghosts (F i)) where
  -- The host function that is defined, with the type that it declares.
  abbrev pub definition_of : HostDef I F → HostDefinition (HostObject I F)
  definition_of d = record {
    module_name = string_bytes d.«module»;
    name = string_bytes d.name;
    host = record { ty = declared_type members d.func; object = d.func };
  }

  -- Why a definition is refused: for its first cause, or because memory ran out.
  abbrev pub IsAtFault : NewFault → NamesContents → HostDef I F → Type 0
  IsAtFault HostFuncRef names d =
      fault_of type_of_host names (definition_of d) ≡ Some machine.HostFuncRef
  IsAtFault NameTaken names d =
      fault_of type_of_host names (definition_of d) ≡ Some machine.NameTaken
  IsAtFault OutOfMemory names d = Unit {0}

  -- The first definition at fault is refused with this, or memory ran out.
  abbrev pub IsFirstFault : NewFault → List (HostDef I F) → Type 0
  IsFirstFault HostFuncRef ds =
      first_fault type_of_host no_names 0 (map definition_of ds) ≡ Some machine.HostFuncRef
  IsFirstFault NameTaken ds =
      first_fault type_of_host no_names 0 (map definition_of ds) ≡ Some machine.NameTaken
  IsFirstFault OutOfMemory ds = Unit {0}
