-- Memories that the store keeps.
use Rattle.std.specs.Prelude.{◌≡◌, ℕ, ◌*◌, ◌≤◌, List, ◌++◌, length, take, drop}
use Rattle.meaning.specs.execution.Memories.{MemoryInstance, page_size}
use Rattle.meaning.specs.validation.Types.{most_pages}

-- The bytes are that many whole pages, and no more than a memory may have.
pub record HasPages (pages : ℕ) (bytes : List ℕ) : Type 0 where
  pub whole : length bytes ≡ page_size * pages
  pub few : pages ≤ most_pages

-- The memory with these bytes written over its first bytes. The number of its bytes stays.
abbrev pub with_bytes : MemoryInstance → List ℕ → MemoryInstance
with_bytes m bytes = record {
  limits = m.limits;
  bytes = take (length m.bytes) (bytes ++ drop (length bytes) m.bytes);
}
