-- The outcome of a write or a growth that was paid for.
use Rattle.std.proofs.Common.{◌≡◌, ℕ, ◌-◌, ◌≤◌, List, [], ◌∷◌, ap, sym, refl, arith}
use Rattle.std.specs.Prelude.{Some, None, Result, Ok, Err, Bool, true, false, if◌then◌else◌}
use Rattle.std.specs.declared.alloc.AllocError.{AllocError}
use Rattle.core_types.specs.declared.outcome.Trap.{Trap}
use Rattle.core_types.specs.declared.outcome.Val.{Val}
use Rattle.meaning.specs.execution.Costs.{bulk_cost, entries_cost, growth_cost}
use Rattle.meaning.specs.execution.Memories.{grow_by}
use Rattle.meaning.specs.execution.Tables.{grow_entries}
use Rattle.simulation.specs.Bulk.{grown_memory, written_memory}
use Rattle.simulation.specs.Tables.{grown_table, written_table}
use Rattle.store.specs.Contents.{Contents, store_with}
use Rattle.store.specs.State.{StateContents, memory_of, put_memory, put_table, table_of}
use Rattle.store.specs.Tables.{with_entries}
use Rattle.bulkops.specs.Accesses.{Wrote, price_of_access}
use Rattle.bulkops.specs.Growth.{DidGrow, price_of_growth}
use Rattle.bulkops.specs.Memories.{state_with}
use Rattle.bulkops.specs.Tables.{state_with_entries}
use Rattle.effects.specs.Outcomes.{Gives, after_growth, after_write}

module _ (code : Contents) (s s' : StateContents) (address cost fuel left : ℕ) (enough : cost ≤ fuel) (left_is : left ≡ fuel - cost) (some : 1 ≤ cost) where
  -- To a memory.
  pub wrote-memory : (count : ℕ) (wanted : Result (List ℕ) Trap) (write : Result (Unit {0}) Trap) → cost ≡ price_of_access wanted (bulk_cost count) → Wrote write s s' (state_with s address wanted)
      → Gives (written_memory (store_with code s) count address (memory_of s address) wanted) (store_with code s) (store_with code s') fuel (after_write write left)
  wrote-memory count (Ok bytes) (Ok u) price wrote =
      let is : s' ≡ put_memory s address (record { limits = (memory_of s address).limits; bytes = bytes }) = cc in
      (record { some = omega (arith, some, price); enough = omega (arith, enough, price); left = omega (arith, left_is, price); result = refl }, ap (store_with code) is)
  wrote-memory count (Ok bytes) (Err trap) price (wrong, kept) = absurd cc
  wrote-memory count (Err trap) (Ok u) price wrong = absurd cc
  wrote-memory count (Err trap) (Err other) price (is, kept) = let same : other ≡ trap = cc in ((same, omega (arith, enough, price)), ap (store_with code) kept)

  -- To a table.
  pub wrote-table : (full : ℕ) (wanted : Result (List Val) Trap) (write : Result (Unit {0}) Trap) → cost ≡ price_of_access wanted full → Wrote write s s' (state_with_entries s address wanted)
      → Gives (written_table (store_with code s) full address (table_of s address) wanted) (store_with code s) (store_with code s') fuel (after_write write left)
  wrote-table full (Ok entries) (Ok u) price wrote =
      let is : s' ≡ put_table s address (with_entries (table_of s address) entries) = cc in
      (record { some = omega (arith, some, price); enough = omega (arith, enough, price); left = omega (arith, left_is, price); result = refl }, ap (store_with code) is)
  wrote-table full (Ok entries) (Err trap) price (wrong, kept) = absurd cc
  wrote-table full (Err trap) (Ok u) price wrong = absurd cc
  wrote-table full (Err trap) (Err other) price (is, kept) = let same : other ≡ trap = cc in ((same, omega (arith, enough, price)), ap (store_with code) kept)

  -- A memory grows.
  pub grew-memory : (pages : ℕ) (may : Bool) (growth : Result ℕ AllocError) → cost ≡ price_of_growth (if may then Some (memory_of s address).limits.min else None) (growth_cost pages)
      → DidGrow (if may then Some (memory_of s address).limits.min else None) growth s s' (put_memory s address (grow_by (memory_of s address) pages))
      → Gives (grown_memory (store_with code s) address (memory_of s address) pages may) (store_with code s) (store_with code s') fuel (after_growth growth left)
  grew-memory pages true (Ok size) price (size_is, is) = (
    record {
      some = omega (arith, some, price);
      enough = omega (arith, enough, price);
      left = omega (arith, left_is, price);
      result = ap (λ (n : ℕ). n ∷ []) (sym size_is);
    },
    ap (store_with code) is,
  )
  grew-memory pages true (Err error) price kept = (omega (arith, enough, price), ap (store_with code) kept)
  grew-memory pages false (Ok size) price (size_is, kept) =
      (record { some = omega arith; enough = omega (arith, enough, price); left = omega (arith, left_is, price); result = ap (λ (n : ℕ). n ∷ []) (sym size_is) }, ap (store_with code) kept)
  grew-memory pages false (Err error) price wrong = absurd wrong

  -- A table grows.
  pub grew-table : (value : Val) (count : ℕ) (may : Bool) (growth : Result ℕ AllocError) → cost ≡ price_of_growth (if may then Some (table_of s address).ty.limits.min else None) (entries_cost count)
      → DidGrow (if may then Some (table_of s address).ty.limits.min else None) growth s s' (put_table s address (grow_entries (table_of s address) value count))
      → Gives (grown_table (store_with code s) address (table_of s address) value count may) (store_with code s) (store_with code s') fuel (after_growth growth left)
  grew-table value count true (Ok size) price (size_is, is) = (
    record {
      some = omega (arith, some, price);
      enough = omega (arith, enough, price);
      left = omega (arith, left_is, price);
      result = ap (λ (n : ℕ). n ∷ []) (sym size_is);
    },
    ap (store_with code) is,
  )
  grew-table value count true (Err error) price kept = (omega (arith, enough, price), ap (store_with code) kept)
  grew-table value count false (Ok size) price (size_is, kept) =
      (record { some = omega arith; enough = omega (arith, enough, price); left = omega (arith, left_is, price); result = ap (λ (n : ℕ). n ∷ []) (sym size_is) }, ap (store_with code) kept)
  grew-table value count false (Err error) price wrong = absurd wrong

-- A trap has the same cost.
pub price-one : {X : Type 0} (wanted : Result X Trap) → 1 ≡ price_of_access wanted 1
price-one (Ok x) = refl
price-one (Err trap) = refl
