-- Empty stores, and stores with one more host function.
use Rattle.std.proofs.Common.{◌≡◌, ℕ, ◌+◌, ◌<◌, ◌^◌, [], ◌∷◌, ◌++◌, length, refl, arith}
use Rattle.std.proofs.lemmas.List.{length-append}
use Rattle.std.proofs.lemmas.List.Elements.{All-append, All-replicate}
use Rattle.std.specs.List.{All}
use Rattle.core_types.specs.declared.types.FuncType.{FuncType}
use Rattle.meaning.specs.execution.Store.{FunctionInstance, InHost, Store}
use Rattle.soundness.specs.Stores.{Extends, FunctionIsValid, StoreIsValid}
use Rattle.soundness.proofs.Appends.{Keeps-append}
use Rattle.soundness.proofs.Effects.{Extends-same}
use Rattle.soundness.proofs.Writes.{elements-still, functions-still, globals-still, instances-still, tables-still}

nothing : {X : Type 0} (P : X → Type 0) → All P []
nothing P k d inside = let wrong : ⊥ = omega (arith, inside) in absurd wrong

module _ (old : Store) (t : FuncType) (number : ℕ) (room : length old.functions + 1 < 2 ^ 32) (valid : StoreIsValid old) where
  abbrev f : FunctionInstance
  f = record { ty = t; implementation = InHost number }

  abbrev pub with_host : Store
  with_host = record old { functions = old.functions ++ f ∷ [] }

  pub host-extends : Extends old with_host
  host-extends = record {
    functions = Keeps-append (λ (f g : FunctionInstance). f ≡ g) (λ x. refl) old.functions (f ∷ []);
    instances = (Extends-same old).instances;
    tables = (Extends-same old).tables;
    memories = (Extends-same old).memories;
    globals = (Extends-same old).globals;
    elements = (Extends-same old).elements;
    datas = (Extends-same old).datas;
    pages = refl;
    entries = refl;
  }

  pub host-valid : StoreIsValid with_host
  host-valid = record {
    functions = All-append (FunctionIsValid with_host) old.functions (f ∷ [])
        (functions-still old with_host valid host-extends old.functions valid.functions) (All-replicate (FunctionIsValid with_host) 1 f tt);
    instances = instances-still old with_host valid host-extends old.instances valid.instances;
    tables = tables-still old with_host valid host-extends old.tables valid.tables;
    memories = valid.memories;
    globals = globals-still old with_host valid host-extends old.globals valid.globals;
    elements = elements-still old with_host valid host-extends old.elements valid.elements;
    datas = valid.datas;
    few = record {
      functions = omega (arith, room, length-append old.functions (f ∷ []));
      instances = valid.few.instances;
      tables = valid.few.tables;
      memories = valid.few.memories;
      globals = valid.few.globals;
      elements = valid.few.elements;
      datas = valid.few.datas;
    };
  }
