-- What an embedding holds, in the terms of the definitions.
use Rattle.std.specs.Prelude.{List, map}
use Rattle.std.specs.declared.rc.Rc.{Rc}
use Rattle.core_types.specs.declared.module.Module.{Module}
use Rattle.meaning.specs.embedding.Machine.{Embedding}
use Rattle.exec.specs.Endings.{run_state}
use Rattle.hostfunc.specs.declared.host_object.HostObject.{HostObject}
use Rattle.hostfunc.specs.Tables.{hosts_in}
use Rattle.store.specs.Contents.{store_of}
use Rattle.store.specs.Loaded.{LoadedContents}
use Rattle.embed.specs.declared.embedding.Embedding.{Embedding as Kept}

-- The shared modules.
abbrev pub modules_in : {Z : Type 0} → List (Rc LoadedContents Z) → List Module
modules_in shared = map (λ (r : Rc LoadedContents _). r.value.source) shared

module _ {I : Type 0} {F : I → Type 0} where
  -- The embedding that is kept.
  abbrev pub embedding_of : Kept I F → Embedding (HostObject I F)
  embedding_of e = record {
    setup = e.config;
    modules = modules_in e.modules.items;
    instances = e.instances.items;
    names = e.names;
    state = run_state (store_of e.store) (hosts_in e.hosts) e.meter.left;
  }
