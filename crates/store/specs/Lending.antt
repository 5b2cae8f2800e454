-- When a borrow ends, the memory has what was written through the borrow.
use Rattle.std.specs.Prelude.{ℕ, List}
use Rattle.std.specs.Borrow.{Lends, MutBor, Fml, u8, Array}
use Rattle.meaning.specs.execution.Memories.{MemoryInstance}
use Rattle.store.specs.Memories.{with_bytes}
use Rattle.store.specs.State.{StateContents, with_lent}
use Rattle.store.specs.contracts.memories.Memory.{the_row as memory_row}
use Rattle.store.specs.contracts.state.State.{the_row as state_row}

abbrev pub LendsBytes : MutBor MemoryInstance → MutBor (List ℕ) → Fml
LendsBytes m r = Lends memory_row (Array u8 0) m r (with_bytes m.now)

abbrev pub LendsMemory : MutBor StateContents → ℕ → MutBor (List ℕ) → Fml
LendsMemory s address r = Lends state_row (Array u8 0) s r (with_lent s.now address)
