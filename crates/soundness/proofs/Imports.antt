-- What is given for the imports of a module, kind by kind.
use Rattle.std.proofs.Common.{◌≡◌, ℕ, suc, ◌<◌, List, [], ◌∷◌, length, map, Option, Some, None, refl, ap, ap₂, subst, sym, ◌∙◌, arith, slice_get, option_map, unwrap_or}
use Rattle.std.proofs.lemmas.List.Elements.{All-append, All-replicate}
use Rattle.std.proofs.lemmas.Option.{slice_get_within}
use Rattle.std.specs.List.{All}
use Rattle.core_types.specs.declared.module.Import.{Import}
use Rattle.core_types.specs.declared.module.ImportDesc.{ImportDesc}
use Rattle.core_types.specs.declared.module.ImportDesc.TheVariants as import
use Rattle.core_types.specs.declared.module.Module.{Module}
use Rattle.core_types.specs.declared.outcome.Extern.{Extern}
use Rattle.core_types.specs.declared.outcome.Extern.TheVariants as value
use Rattle.core_types.specs.declared.types.ExternType.{ExternType}
use Rattle.core_types.specs.declared.types.ExternType.TheVariants as type
use Rattle.core_types.specs.declared.types.FuncType.{FuncType}
use Rattle.core_types.specs.declared.types.GlobalType.{GlobalType}
use Rattle.core_types.specs.declared.types.Limits.{Limits}
use Rattle.core_types.specs.declared.types.RefType.{RefType}
use Rattle.core_types.specs.declared.types.TableType.{TableType}
use Rattle.meaning.specs.execution.Memories.{MemoryInstance}
use Rattle.meaning.specs.execution.Modules.{AreGiven, IsGiven, before, function_address, given_addresses, global_address, import_type, memory_address, table_address}
use Rattle.meaning.specs.execution.Store.{FunctionInstance, GlobalInstance, Store, extern_type}
use Rattle.meaning.specs.execution.Tables.{TableInstance}
use Rattle.meaning.specs.validation.Matching.{Matches}
use Rattle.meaning.specs.validation.Modules.{imported_functions, imported_globals, imported_memories, imported_tables, type_at}
use Rattle.soundness.specs.Places.{types_at}
use Rattle.soundness.specs.Stores.{AreThere}

pub mapped : {X Y : Type 0} (f : X → Y) (o : Option X) (y : Y) → option_map f o ≡ Some y → (x : X) × (o ≡ Some x) × (f x ≡ y)
mapped f None y is = absurd cc
mapped f (Some x) y is = let same : f x ≡ y = cc in (x, refl, same)

module _ (store : Store) (m : Module) where
  -- An external value is of the kind that an import requires, and exists.
  pub data GivenAs : ImportDesc → Extern → Type 0 where
    as_function : {x a : ℕ} (f : FunctionInstance) → slice_get store.functions a ≡ Some f → slice_get m.types x ≡ Some f.ty → GivenAs (import.Func x) (value.Func a)
    as_table : {t : TableType} {a : ℕ} (table : TableInstance) → slice_get store.tables a ≡ Some table → table.ty.element ≡ t.element → GivenAs (import.Table t) (value.Table a)
    as_memory : {l : Limits} {a : ℕ} (memory : MemoryInstance) → slice_get store.memories a ≡ Some memory → GivenAs (import.Memory l) (value.Memory a)
    as_global : {t : GlobalType} {a : ℕ} (g : GlobalInstance) → slice_get store.globals a ≡ Some g → g.ty ≡ t → GivenAs (import.Global t) (value.Global a)

  meets : (g w given wanted : ExternType) → g ≡ given → w ≡ wanted → Matches given wanted → Matches g w
  meets g w given wanted g_is w_is fits = subst (λ (z : ExternType). Matches g z) (sym w_is) (subst (λ (z : ExternType). Matches z wanted) (sym g_is) fits)

  function-at : (a : ℕ) (given : ExternType) → extern_type store (value.Func a) ≡ Some given → (f : FunctionInstance) × (slice_get store.functions a ≡ Some f) × (type.Func f.ty ≡ given)
  function-at a given is = mapped (λ (f : FunctionInstance). type.Func f.ty) (slice_get store.functions a) given is

  table-at : (a : ℕ) (given : ExternType) → extern_type store (value.Table a) ≡ Some given → (table : TableInstance) × (slice_get store.tables a ≡ Some table) × (type.Table table.ty ≡ given)
  table-at a given is = mapped (λ (table : TableInstance). type.Table table.ty) (slice_get store.tables a) given is

  memory-at : (a : ℕ) (given : ExternType) → extern_type store (value.Memory a) ≡ Some given → (memory : MemoryInstance)
      × (slice_get store.memories a ≡ Some memory) × (type.Memory memory.limits ≡ given)
  memory-at a given is = mapped (λ (memory : MemoryInstance). type.Memory memory.limits) (slice_get store.memories a) given is

  global-at : (a : ℕ) (given : ExternType) → extern_type store (value.Global a) ≡ Some given → (g : GlobalInstance) × (slice_get store.globals a ≡ Some g) × (type.Global g.ty ≡ given)
  global-at a given is = mapped (λ (g : GlobalInstance). type.Global g.ty) (slice_get store.globals a) given is

  function-asked : (x : ℕ) (wanted : ExternType) → import_type m (import.Func x) ≡ Some wanted → (t : FuncType) × (slice_get m.types x ≡ Some t) × (type.Func t ≡ wanted)
  function-asked x wanted is = mapped (λ (t : FuncType). type.Func t) (slice_get m.types x) wanted is

  asked : (t wanted : ExternType) → Some t ≡ Some wanted → t ≡ wanted
  asked t wanted is = cc

  given-as : (d : ImportDesc) (e : Extern) → IsGiven store e (import_type m d) → GivenAs d e
  given-as (import.Func x) (value.Func a) (given, wanted, is, asks, fits) =
      let (f, there, given_is) = function-at a given is in
      let (t, there_t, wanted_is) = function-asked x wanted asks in
      as_function f there (there_t ∙ ap (λ (u : FuncType). Some u) (sym (meets (type.Func f.ty) (type.Func t) given wanted given_is wanted_is fits)))
  given-as (import.Func x) (value.Table a) (given, wanted, is, asks, fits) =
      let (table, there, given_is) = table-at a given is in
      let (t, there_t, wanted_is) = function-asked x wanted asks in
      absurd (meets (type.Table table.ty) (type.Func t) given wanted given_is wanted_is fits)
  given-as (import.Func x) (value.Memory a) (given, wanted, is, asks, fits) =
      let (memory, there, given_is) = memory-at a given is in
      let (t, there_t, wanted_is) = function-asked x wanted asks in
      absurd (meets (type.Memory memory.limits) (type.Func t) given wanted given_is wanted_is fits)
  given-as (import.Func x) (value.Global a) (given, wanted, is, asks, fits) =
      let (g, there, given_is) = global-at a given is in
      let (t, there_t, wanted_is) = function-asked x wanted asks in
      absurd (meets (type.Global g.ty) (type.Func t) given wanted given_is wanted_is fits)
  given-as (import.Table t) (value.Func a) (given, wanted, is, asks, fits) =
      let (f, there, given_is) = function-at a given is in
      let wanted_is = asked (type.Table t) wanted asks in
      absurd (meets (type.Func f.ty) (type.Table t) given wanted given_is wanted_is fits)
  given-as (import.Table t) (value.Table a) (given, wanted, is, asks, fits) =
      let (table, there, given_is) = table-at a given is in
      let wanted_is = asked (type.Table t) wanted asks in
      as_table table there (meets (type.Table table.ty) (type.Table t) given wanted given_is wanted_is fits).0
  given-as (import.Table t) (value.Memory a) (given, wanted, is, asks, fits) =
      let (memory, there, given_is) = memory-at a given is in
      let wanted_is = asked (type.Table t) wanted asks in
      absurd (meets (type.Memory memory.limits) (type.Table t) given wanted given_is wanted_is fits)
  given-as (import.Table t) (value.Global a) (given, wanted, is, asks, fits) =
      let (g, there, given_is) = global-at a given is in
      let wanted_is = asked (type.Table t) wanted asks in
      absurd (meets (type.Global g.ty) (type.Table t) given wanted given_is wanted_is fits)
  given-as (import.Memory l) (value.Func a) (given, wanted, is, asks, fits) =
      let (f, there, given_is) = function-at a given is in
      let wanted_is = asked (type.Memory l) wanted asks in
      absurd (meets (type.Func f.ty) (type.Memory l) given wanted given_is wanted_is fits)
  given-as (import.Memory l) (value.Table a) (given, wanted, is, asks, fits) =
      let (table, there, given_is) = table-at a given is in
      let wanted_is = asked (type.Memory l) wanted asks in
      absurd (meets (type.Table table.ty) (type.Memory l) given wanted given_is wanted_is fits)
  given-as (import.Memory l) (value.Memory a) (given, wanted, is, asks, fits) =
      let (memory, there, given_is) = memory-at a given is in
      let wanted_is = asked (type.Memory l) wanted asks in
      as_memory memory there
  given-as (import.Memory l) (value.Global a) (given, wanted, is, asks, fits) =
      let (g, there, given_is) = global-at a given is in
      let wanted_is = asked (type.Memory l) wanted asks in
      absurd (meets (type.Global g.ty) (type.Memory l) given wanted given_is wanted_is fits)
  given-as (import.Global t) (value.Func a) (given, wanted, is, asks, fits) =
      let (f, there, given_is) = function-at a given is in
      let wanted_is = asked (type.Global t) wanted asks in
      absurd (meets (type.Func f.ty) (type.Global t) given wanted given_is wanted_is fits)
  given-as (import.Global t) (value.Table a) (given, wanted, is, asks, fits) =
      let (table, there, given_is) = table-at a given is in
      let wanted_is = asked (type.Global t) wanted asks in
      absurd (meets (type.Table table.ty) (type.Global t) given wanted given_is wanted_is fits)
  given-as (import.Global t) (value.Memory a) (given, wanted, is, asks, fits) =
      let (memory, there, given_is) = memory-at a given is in
      let wanted_is = asked (type.Global t) wanted asks in
      absurd (meets (type.Memory memory.limits) (type.Global t) given wanted given_is wanted_is fits)
  given-as (import.Global t) (value.Global a) (given, wanted, is, asks, fits) =
      let (g, there, given_is) = global-at a given is in
      let wanted_is = asked (type.Global t) wanted asks in
      as_global g there (meets (type.Global g.ty) (type.Global t) given wanted given_is wanted_is fits)

  -- ---- what is given of each kind has the required types

  pub functions-given : (missing : FuncType) (imports : List Import) (given : List Extern) → AreGiven store m imports given → length given ≡ length imports
      → types_at (λ (f : FunctionInstance). f.ty) missing store.functions (given_addresses function_address given) ≡ map (type_at m.types) (imported_functions imports)
  functions-given missing [] [] fits same = refl
  functions-given missing [] (e ∷ es) fits same = absurd (let wrong : ⊥ = omega (arith, same) in wrong)
  functions-given missing (i ∷ is) [] fits same = absurd fits
  functions-given missing (i ∷ is) (e ∷ es) fits same = by i.desc e (given-as i.desc e fits.0) (given_addresses function_address es)
      (imported_functions is) (functions-given missing is es fits.1 (omega (arith, same)))
    where
      by : (d : ImportDesc) (e : Extern) → GivenAs d e → (addresses indices : List ℕ) → types_at (λ (f : FunctionInstance). f.ty) missing store.functions addresses ≡ map (type_at m.types) indices
          → types_at (λ (f : FunctionInstance). f.ty) missing store.functions (before (function_address e) addresses)
          ≡ map (type_at m.types) (elim d [ import.Func x ↦ x ∷ indices | import.Table t ↦ indices | import.Memory l ↦ indices | import.Global g ↦ indices ])
      by _ _ (as_function {x} {a} f there types_are) addresses indices rest =
          ap₂ (λ (t : FuncType) (ts : List FuncType). t ∷ ts)
          (ap (λ (o : Option FunctionInstance). unwrap_or (option_map (λ (f : FunctionInstance). f.ty) o) missing) there ∙ ap
          (λ (o : Option FuncType). unwrap_or o (record { params = []; results = [] })) (sym types_are)) rest
      by _ _ (as_table table there same) addresses indices rest = rest
      by _ _ (as_memory memory there) addresses indices rest = rest
      by _ _ (as_global g there same) addresses indices rest = rest

  pub tables-given : (missing : TableType) (imports : List Import) (given : List Extern) → AreGiven store m imports given → length given ≡ length imports
      → map (λ (t : TableType). t.element) (types_at (λ (t : TableInstance). t.ty) missing store.tables (given_addresses table_address given))
      ≡ map (λ (t : TableType). t.element) (imported_tables imports)
  tables-given missing [] [] fits same = refl
  tables-given missing [] (e ∷ es) fits same = absurd (let wrong : ⊥ = omega (arith, same) in wrong)
  tables-given missing (i ∷ is) [] fits same = absurd fits
  tables-given missing (i ∷ is) (e ∷ es) fits same = by i.desc e (given-as i.desc e fits.0) (given_addresses table_address es) (imported_tables is)
      (tables-given missing is es fits.1 (omega (arith, same)))
    where
      by : (d : ImportDesc) (e : Extern) → GivenAs d e → (addresses : List ℕ) (types : List TableType)
          → map (λ (t : TableType). t.element) (types_at (λ (t : TableInstance). t.ty) missing store.tables addresses)
          ≡ map (λ (t : TableType). t.element) types
          → map (λ (t : TableType). t.element) (types_at (λ (t : TableInstance). t.ty) missing store.tables (before (table_address e) addresses))
          ≡ map (λ (t : TableType). t.element) (elim d [ import.Func x ↦ types | import.Table t ↦ t ∷ types | import.Memory l ↦ types | import.Global g ↦ types ])
      by _ _ (as_function f there types_are) addresses types rest = rest
      by _ _ (as_table {t} {a} table there same) addresses types rest =
          ap₂ (λ (t : RefType) (ts : List RefType). t ∷ ts) (ap (λ (o : Option TableInstance). (unwrap_or (option_map (λ (t : TableInstance). t.ty) o) missing).element) there ∙ same) rest
      by _ _ (as_memory memory there) addresses types rest = rest
      by _ _ (as_global g there same) addresses types rest = rest

  pub globals-given : (missing : GlobalType) (imports : List Import) (given : List Extern) → AreGiven store m imports given → length given ≡ length imports
      → types_at (λ (g : GlobalInstance). g.ty) missing store.globals (given_addresses global_address given) ≡ imported_globals imports
  globals-given missing [] [] fits same = refl
  globals-given missing [] (e ∷ es) fits same = absurd (let wrong : ⊥ = omega (arith, same) in wrong)
  globals-given missing (i ∷ is) [] fits same = absurd fits
  globals-given missing (i ∷ is) (e ∷ es) fits same = by i.desc e (given-as i.desc e fits.0) (given_addresses global_address es) (imported_globals is)
      (globals-given missing is es fits.1 (omega (arith, same)))
    where
      by : (d : ImportDesc) (e : Extern) → GivenAs d e → (addresses : List ℕ) (types : List GlobalType) → types_at (λ (g : GlobalInstance). g.ty) missing store.globals addresses ≡ types
          → types_at (λ (g : GlobalInstance). g.ty) missing store.globals (before (global_address e) addresses)
          ≡ (elim d [ import.Func x ↦ types | import.Table t ↦ types | import.Memory l ↦ types | import.Global g ↦ g ∷ types ])
      by _ _ (as_function f there types_are) addresses types rest = rest
      by _ _ (as_table table there same) addresses types rest = rest
      by _ _ (as_memory memory there) addresses types rest = rest
      by _ _ (as_global {t} {a} g there same) addresses types rest =
          ap₂ (λ (t : GlobalType) (ts : List GlobalType). t ∷ ts) (ap (λ (o : Option GlobalInstance). unwrap_or (option_map (λ (g : GlobalInstance). g.ty) o) missing) there ∙ same) rest

  pub memories-given : (imports : List Import) (given : List Extern) → AreGiven store m imports given → length given ≡ length imports
      → length (given_addresses memory_address given) ≡ length (imported_memories imports)
  memories-given [] [] fits same = refl
  memories-given [] (e ∷ es) fits same = absurd (let wrong : ⊥ = omega (arith, same) in wrong)
  memories-given (i ∷ is) [] fits same = absurd fits
  memories-given (i ∷ is) (e ∷ es) fits same = by i.desc e (given-as i.desc e fits.0) (given_addresses memory_address es) (imported_memories is) (memories-given is es fits.1 (omega (arith, same)))
    where
      by : (d : ImportDesc) (e : Extern) → GivenAs d e → (addresses : List ℕ) (types : List Limits) → length addresses ≡ length types
          → length (before (memory_address e) addresses) ≡ length {A = Limits} (elim d [ import.Func x ↦ types | import.Table t ↦ types | import.Memory l ↦ l ∷ types | import.Global g ↦ types ])
      by _ _ (as_function f there types_are) addresses types rest = rest
      by _ _ (as_table table there same) addresses types rest = rest
      by _ _ (as_memory memory there) addresses types rest = ap suc rest
      by _ _ (as_global g there same) addresses types rest = rest

  -- ---- what is given exists

  pub record AreAllThere (given : List Extern) : Type 0 where
    pub functions : AreThere store.functions (given_addresses function_address given)
    pub tables : AreThere store.tables (given_addresses table_address given)
    pub memories : AreThere store.memories (given_addresses memory_address given)
    pub globals : AreThere store.globals (given_addresses global_address given)

  in-front : {X : Type 0} (items : List X) (a : ℕ) (x : X) (addresses : List ℕ) → slice_get items a ≡ Some x → AreThere items addresses → AreThere items (a ∷ addresses)
  in-front items a x addresses is rest = All-append (λ (b : ℕ). b < length items) (a ∷ []) addresses (All-replicate (λ (b : ℕ). b < length items) 1 a (slice_get_within items a x is)) rest

  pub given-there : (imports : List Import) (given : List Extern) → AreGiven store m imports given → length given ≡ length imports → AreAllThere given
  given-there [] [] fits same = record { functions = none; tables = none; memories = none; globals = none }
    where
      none : {n : ℕ} → All (λ (b : ℕ). b < n) []
      none k d inside = let wrong : ⊥ = omega (arith, inside) in absurd wrong
  given-there [] (e ∷ es) fits same = absurd (let wrong : ⊥ = omega (arith, same) in wrong)
  given-there (i ∷ is) [] fits same = absurd fits
  given-there (i ∷ is) (e ∷ es) fits same = by i.desc e (given-as i.desc e fits.0) (given-there is es fits.1 (omega (arith, same)))
    where
      by : (d : ImportDesc) (e : Extern) → GivenAs d e → AreAllThere es → AreAllThere (e ∷ es)
      by _ _ (as_function {x} {a} f there types_are) rest =
          record { functions = in-front store.functions a f _ there rest.functions; tables = rest.tables; memories = rest.memories; globals = rest.globals }
      by _ _ (as_table {t} {a} table there same) rest =
          record { functions = rest.functions; tables = in-front store.tables a table _ there rest.tables; memories = rest.memories; globals = rest.globals }
      by _ _ (as_memory {l} {a} memory there) rest =
          record { functions = rest.functions; tables = rest.tables; memories = in-front store.memories a memory _ there rest.memories; globals = rest.globals }
      by _ _ (as_global {t} {a} g there same) rest = record { functions = rest.functions; tables = rest.tables; memories = rest.memories; globals = in-front store.globals a g _ there rest.globals }
