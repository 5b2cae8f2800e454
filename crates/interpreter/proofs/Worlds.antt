-- What an instance has in a store whose memory was taken out of the state.
use Rattle.std.proofs.Common.{◌≡◌, ℕ, ◌<◌, List, length, set, slice_get, refl, ap, sym, subst, ◌∙◌, arith}
use Rattle.std.proofs.lemmas.List.{get_or-set_same, length-set, set-set}
use Rattle.std.proofs.lemmas.Option.{get_or_from_slice_get, same_Some, slice_get-map, slice_get_within}
use Rattle.std.specs.Prelude.{Option, Some, None, option_map, unwrap_or}
use Rattle.core_types.specs.declared.outcome.Val.{Val}
use Rattle.core_types.specs.declared.types.FuncType.{FuncType}
use Rattle.meaning.specs.execution.Memories.{MemoryInstance}
use Rattle.meaning.specs.execution.Store.{GlobalInstance, ModuleInstance, Store, instance_of, locate, locate_at, no_instance, with_global, with_memory}
use Rattle.meaning.specs.execution.Tables.{TableInstance}
use Rattle.cells.specs.Cells.{value_of}
use Rattle.store.specs.Contents.{Contents, IsLoaded, module_instance_of, store_with}
use Rattle.store.specs.declared.instances.Instance.{Instance}
use Rattle.store.specs.State.{StateContents, global_of, put_global, table_of}
use Rattle.simulation.specs.Memories.{HasMemory}
use Rattle.simulation.specs.Runs.{Ghost}
use Rattle.simulation.specs.Tables.{HasTable}
use Rattle.simulation.specs.Variables.{HasGlobal}
use Rattle.interpreter.specs.Running.{Machine, RunsAt}
use Rattle.interpreter.specs.Operations.{entry_through, function_address, global_address, table_address, type_of, with_global_cell}
use Rattle.interpreter.specs.Worlds.{IsInstance, World, memory_in, store_in, with_memory_back}

-- ---- objects by address

module _ {X : Type 0} where
  located-at : (a b : ℕ) (o : Option X) (x : X) → locate_at a o ≡ Some (b, x) → (a ≡ b) × (o ≡ Some x)
  located-at a b None x e = absurd cc
  located-at a b (Some y) x e = let both : (a, y) ≡ (b, x) = cc in (ap (λ (p : ℕ × X). p.0) both, ap (λ (p : ℕ × X). Some p.1) both)

  located : (items : List X) (o : Option ℕ) (a : ℕ) (x : X) → locate items o ≡ Some (a, x) → (o ≡ Some a) × (slice_get items a ≡ Some x)
  located items None a x e = absurd cc
  located items (Some b) a x e = let (same, there) = located-at b a (slice_get items b) x e in (ap Some same, ap (slice_get items) (sym same) ∙ there)

  written-there : (items : List X) (a : ℕ) (x y : X) → slice_get (set items a x) a ≡ Some y → y ≡ x
  written-there items a x y e =
      let as_many = length-set items a x in
      let within = slice_get_within (set items a x) a y e in
      sym (get_or_from_slice_get (set items a x) a y x e) ∙ get_or-set_same items a x x (omega (arith, within, as_many))

-- ---- with a memory put back

module _ (code : Contents) (s : StateContents) (memory : MemoryInstance) where
  globals-stay : (o : Option ℕ) → (with_memory_back s o memory).contents.globals ≡ s.contents.globals
  globals-stay None = refl
  globals-stay (Some a) = refl

  tables-stay : (o : Option ℕ) → (with_memory_back s o memory).contents.tables ≡ s.contents.tables
  tables-stay None = refl
  tables-stay (Some a) = refl

  memory-back : (o : Option ℕ) (address : ℕ) (found : MemoryInstance) → locate (with_memory_back s o memory).contents.memories o ≡ Some (address, found) → (o ≡ Some address) × (found ≡ memory)
  memory-back None address found e = absurd cc
  memory-back (Some a) address found e =
      let (same, there) = located-at a address (slice_get (set s.contents.memories a memory) a) found e in
      (ap Some same, written-there s.contents.memories a memory found there)

  other-memory : (o : Option ℕ) (address : ℕ) (other : MemoryInstance) → o ≡ Some address
      → with_memory (store_with code (with_memory_back s o memory)) address other ≡ store_with code (with_memory_back s o other)
  other-memory None address other e = absurd cc
  other-memory (Some a) address other e =
      let same : a ≡ address = cc in
      ap (λ (n : ℕ). with_memory (store_with code (with_memory_back s (Some a) memory)) n other) (sym same)
      ∙ ap (λ (ms : List MemoryInstance). record (store_with code s) { memories = ms }) (set-set s.contents.memories a memory other)

  other-global : (o : Option ℕ) (address : ℕ) (value : Val)
      → with_global (store_with code (with_memory_back s o memory)) address (record { ty = (global_of s address).ty; value = value })
      ≡ store_with code (with_memory_back (put_global s address value) o memory)
  other-global None address value = refl
  other-global (Some a) address value = refl

-- ---- an instance of a number

-- The flat code of an instance is the same from any view of the store from that instance.
pub flat-seen : (code : Contents) (number : ℕ) (i : Instance) → IsLoaded code number i → (other : World) → other.code ≡ code → other.number ≡ number
    → IsInstance other → other.flat ≡ i.loaded.value.flat
flat-seen code number i loaded other code_is number_is has =
    let same : other.instance ≡ i = same_Some other.instance i
    (sym (subst (λ (n : ℕ). slice_get code.instances n ≡ Some other.instance) number_is
    (subst (λ (c : Contents). slice_get c.instances other.number ≡ Some other.instance) code_is has.loaded.there)) ∙ loaded.there) in
    has.flat ∙ ap (λ (x : Instance). x.loaded.value.flat) same

-- ---- what the instance has

module _ (w : World) (m : Machine) (g : Ghost) (r : RunsAt w m g) where
  abbrev its : ModuleInstance
  its = module_instance_of w.instance

  there : instance_of g.store (Some g.instance) ≡ its
  there =
      ap (λ (s : Store). instance_of s (Some g.instance)) r.store
      ∙ ap (λ (n : ℕ). unwrap_or (slice_get (store_in w).instances n) no_instance) r.number
      ∙ ap (λ (i : Option ModuleInstance). unwrap_or i no_instance) (slice_get-map module_instance_of w.code.instances w.number ∙ ap (option_map module_instance_of) r.instance.loaded.there)

  -- Its memory is the one that was taken out.
  pub memory-there : (address : ℕ) (memory : MemoryInstance) → HasMemory g address memory → (w.address ≡ Some address) × (memory ≡ memory_in w)
  memory-there address memory has =
      memory-back w.code w.state (memory_in w) w.address address memory
      (ap (λ (o : Option ℕ). locate (store_in w).memories o) (sym (ap (λ (i : ModuleInstance). slice_get i.memories 0) there ∙ r.instance.memory)) ∙
      ap (λ (s : Store). locate s.memories (slice_get (instance_of g.store (Some g.instance)).memories 0)) (sym r.store) ∙ has)

  pub with-memory : (address : ℕ) (memory : MemoryInstance) → HasMemory g address memory → (bytes : List ℕ)
      → with_memory g.store address (record { limits = memory.limits; bytes = bytes }) ≡ store_in (record w { bytes = bytes })
  with-memory address memory has bytes =
      let (at, is) = memory-there address memory has in
      ap (λ (s : Store). with_memory s address (record { limits = memory.limits; bytes = bytes })) r.store
      ∙ other-memory w.code w.state (memory_in w) w.address address (record { limits = memory.limits; bytes = bytes }) at
      ∙ ap (λ (x : MemoryInstance). store_in (record w { limits = x.limits; bytes = bytes })) is

  -- Its globals are those of the state.
  pub record GlobalThere (x address : ℕ) (global : GlobalInstance) : Type 0 where
    pub named : x < length w.instance.addresses.globals.items
    pub address_is : global_address w x ≡ address
    pub inside : global_address w x < length w.state.contents.globals
    pub global_is : global_of w.state (global_address w x) ≡ global

  pub global-there : (x address : ℕ) (global : GlobalInstance) → HasGlobal g x address global → GlobalThere x address global
  global-there x address global has =
      let (at, found) = located g.store.globals (slice_get (instance_of g.store (Some g.instance)).globals x) address global has in
      let named : slice_get w.instance.addresses.globals.items x ≡ Some address = ap (λ (i : ModuleInstance). slice_get i.globals x) (sym there) ∙ at in
      let in_state : slice_get w.state.contents.globals address
      ≡ Some global = ap (λ (gs : List GlobalInstance). slice_get gs address)
      (sym (ap (λ (s : Store). s.globals) r.store ∙ globals-stay w.code w.state (memory_in w) w.address)) ∙ found in
      let is : global_address w x ≡ address = get_or_from_slice_get w.instance.addresses.globals.items x address 0 named in
      let within : address < length w.state.contents.globals = slice_get_within w.state.contents.globals address global in_state in record {
        named = slice_get_within w.instance.addresses.globals.items x address named;
        address_is = is;
        inside = omega (arith, is, within);
        global_is = ap (global_of w.state) is ∙ get_or_from_slice_get w.state.contents.globals address global _ in_state;
      }

  pub with-global : (x address : ℕ) (global : GlobalInstance) → GlobalThere x address global → (cell : ℕ)
      → with_global g.store address (record { ty = global.ty; value = value_of global.ty.value cell }) ≡ store_in (with_global_cell w (global_address w x) cell)
  with-global x address global h cell =
      ap (λ (s : Store). with_global s address (record { ty = global.ty; value = value_of global.ty.value cell })) r.store
      ∙ ap (λ (a : ℕ). with_global (store_in w) a (record { ty = global.ty; value = value_of global.ty.value cell })) (sym h.address_is)
      ∙ ap (λ (y : GlobalInstance). with_global (store_in w) (global_address w x) (record { ty = y.ty; value = value_of y.ty.value cell })) (sym h.global_is)
      ∙ other-global w.code w.state (memory_in w) w.address (global_address w x) (value_of (global_of w.state (global_address w x)).ty.value cell)

  pub function-there : (x address : ℕ) → slice_get (instance_of g.store (Some g.instance)).functions x ≡ Some address
      → (x < length w.instance.addresses.functions.items) × (function_address w x ≡ address)
  function-there x address at =
      let named : slice_get w.instance.addresses.functions.items x ≡ Some address = ap (λ (i : ModuleInstance). slice_get i.functions x) (sym there) ∙ at in
      (slice_get_within w.instance.addresses.functions.items x address named, get_or_from_slice_get w.instance.addresses.functions.items x address 0 named)

  pub type-there : (x : ℕ) (t : FuncType) → slice_get (instance_of g.store (Some g.instance)).types x ≡ Some t → (x < length w.instance.loaded.value.source.types) × (type_of w.instance x ≡ t)
  type-there x t at =
      let named : slice_get w.instance.loaded.value.source.types x ≡ Some t = ap (λ (i : ModuleInstance). slice_get i.types x) (sym there) ∙ at in
      (slice_get_within w.instance.loaded.value.source.types x t named, get_or_from_slice_get w.instance.loaded.value.source.types x t _ named)

  -- Its tables are those of the state.
  pub record TableThere (x : ℕ) (table : TableInstance) : Type 0 where
    pub named : x < length w.instance.addresses.tables.items
    pub inside : table_address w.instance x < length w.state.contents.tables
    pub entry : (offset : ℕ) → entry_through w.instance w.state x offset ≡ slice_get table.entries offset

  pub table-there : (x address : ℕ) (table : TableInstance) → HasTable g x address table → TableThere x table
  table-there x address table has =
      let (at, found) = located g.store.tables (slice_get (instance_of g.store (Some g.instance)).tables x) address table has in
      let named : slice_get w.instance.addresses.tables.items x ≡ Some address = ap (λ (i : ModuleInstance). slice_get i.tables x) (sym there) ∙ at in
      let in_state : slice_get w.state.contents.tables address
      ≡ Some table = ap (λ (ts : List TableInstance). slice_get ts address)
      (sym (ap (λ (s : Store). s.tables) r.store ∙ tables-stay w.code w.state (memory_in w) w.address)) ∙ found in
      let is : table_address w.instance x ≡ address = get_or_from_slice_get w.instance.addresses.tables.items x address 0 named in
      let within : address < length w.state.contents.tables = slice_get_within w.state.contents.tables address table in_state in record {
        named = slice_get_within w.instance.addresses.tables.items x address named;
        inside = omega (arith, is, within);
        entry = λ offset. ap (λ (a : ℕ). slice_get (table_of w.state a).entries offset) is ∙ ap (λ (t : TableInstance). slice_get t.entries offset)
            (get_or_from_slice_get w.state.contents.tables address table _ in_state);
      }
