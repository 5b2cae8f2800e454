-- What an instance in a region exports is in the region.
use Rattle.std.proofs.Common.{◌≡◌, ℕ, List, bytes_eq, Option, Some, None, refl, subst, slice_get, option_map}
use Rattle.std.specs.Prelude.{Ok, find, option_and_then}
use Rattle.core_types.specs.declared.module.Export.{Export}
use Rattle.core_types.specs.declared.module.ExportDesc.{ExportDesc}
use Rattle.core_types.specs.declared.module.ExportDesc.TheVariants as export
use Rattle.core_types.specs.declared.outcome.Extern.{Extern}
use Rattle.core_types.specs.declared.outcome.Extern.TheVariants as value
use Rattle.meaning.specs.embedding.Machine.{as_function, as_global}
use Rattle.meaning.specs.embedding.Machine.{export_in}
use Rattle.meaning.specs.embedding.Names.{export_of, extern_of}
use Rattle.meaning.specs.execution.Store.{ModuleInstance}
use Rattle.soundness.proofs.Values.{All-at}
use Rattle.isolation.specs.Regions.{ExternIsWithin, Has}
use Rattle.isolation.specs.Regions.{InstanceIsWithin, Region}

-- The result of a function for an item that exists.
made-of : {A B : Type 0} (f : A → B) (found : Option A) (y : B) → option_map f found ≡ Some y → (x : A) × (found ≡ Some x) × (f x ≡ y)
made-of f None y is = absurd cc
made-of f (Some x) y is = (x, refl, cc)

module _ (region : Region) (i : ModuleInstance) (has : InstanceIsWithin region i) where
  desc-within : (desc : ExportDesc) (e : Extern) → extern_of i desc ≡ Some e → ExternIsWithin region e
  desc-within (export.Func x) e is = let (a, there, same) = made-of value.Func (slice_get i.functions x) e is in
      subst (ExternIsWithin region) same (All-at (Has region.functions) i.functions x a there has.functions)
  desc-within (export.Table x) e is = let (a, there, same) = made-of value.Table (slice_get i.tables x) e is in
      subst (ExternIsWithin region) same (All-at (Has region.tables) i.tables x a there has.tables)
  desc-within (export.Memory x) e is = let (a, there, same) = made-of value.Memory (slice_get i.memories x) e is in
      subst (ExternIsWithin region) same (All-at (Has region.memories) i.memories x a there has.memories)
  desc-within (export.Global x) e is = let (a, there, same) = made-of value.Global (slice_get i.globals x) e is in
      subst (ExternIsWithin region) same (All-at (Has region.globals) i.globals x a there has.globals)

  export-within : (name : List ℕ) (e : Extern) → export_of i name ≡ Some e → ExternIsWithin region e
  export-within name e is = go (find (λ (x : Export). bytes_eq x.name name) i.exports) is
    where
      go : (found : Option Export) → option_and_then (λ (x : Export). extern_of i x.desc) found ≡ Some e → ExternIsWithin region e
      go None same = absurd cc
      go (Some x) same = desc-within x.desc e same

  pub function-exported : (name : List ℕ) (address : ℕ) → as_function (export_in (export_of i name)) ≡ Ok address → Has region.functions address
  function-exported name address is = go (export_of i name) refl is
    where
      go : (o : Option Extern) → export_of i name ≡ o → as_function (export_in o) ≡ Ok address → Has region.functions address
      go None there same = absurd cc
      go (Some (value.Func x)) there same = let one : x ≡ address = cc in subst (Has region.functions) one (export-within name (value.Func x) there)
      go (Some (value.Table x)) there same = absurd cc
      go (Some (value.Memory x)) there same = absurd cc
      go (Some (value.Global x)) there same = absurd cc

  pub global-exported : (name : List ℕ) (address : ℕ) → as_global (export_in (export_of i name)) ≡ Ok address → Has region.globals address
  global-exported name address is = go (export_of i name) refl is
    where
      go : (o : Option Extern) → export_of i name ≡ o → as_global (export_in o) ≡ Ok address → Has region.globals address
      go None there same = absurd cc
      go (Some (value.Func x)) there same = absurd cc
      go (Some (value.Table x)) there same = absurd cc
      go (Some (value.Memory x)) there same = absurd cc
      go (Some (value.Global x)) there same = let one : x ≡ address = cc in subst (Has region.globals) one (export-within name (value.Global x) there)
