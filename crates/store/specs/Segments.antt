-- Data segments of modules.
use Rattle.std.specs.Prelude.{ℕ, List, [], Option, Some, None, slice_get}
use Rattle.std.specs.declared.rc.Rc.{Rc}
use Rattle.core_types.specs.declared.module.DataSegment.{DataSegment}
use Rattle.core_types.specs.declared.module.Module.{Module}
use Rattle.store.specs.Loaded.{LoadedContents}

abbrev pub segment_bytes : Option DataSegment → List ℕ
segment_bytes None = []
segment_bytes (Some d) = d.bytes

-- The bytes of a module's data segment, or none if there is no such segment.
abbrev pub bytes_at : Module → (x : ℕ) → List ℕ
bytes_at m x = segment_bytes (slice_get m.datas x)

-- The bytes of the shared module, or none if there is no module.
abbrev pub bytes_in : {Z : Type 0} → Option (Rc LoadedContents Z) → (x : ℕ) → List ℕ
bytes_in None x = []
bytes_in (Some loaded) x = bytes_at loaded.value.source x
