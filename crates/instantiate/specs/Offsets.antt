-- Room for the operands of the constant expressions that are the offsets of segments.
use Rattle.std.specs.Prelude.{ℕ, ◌≤◌, List, length}
use Rattle.std.specs.List.{All}
use Rattle.core_types.specs.declared.module.DataMode.{DataMode}
use Rattle.core_types.specs.declared.module.DataMode.TheVariants as data_mode
use Rattle.core_types.specs.declared.module.DataSegment.{DataSegment}
use Rattle.core_types.specs.declared.module.ElementMode.{ElementMode}
use Rattle.core_types.specs.declared.module.ElementMode.TheVariants.{Passive, Active, Declarative}
use Rattle.core_types.specs.declared.module.ElementSegment.{ElementSegment}
use Rattle.core_types.specs.declared.module.Module.{Module}

-- The number of instructions of the offset of a segment, or 0 if it has no offset.
abbrev pub element_mode_offset : ElementMode → ℕ
element_mode_offset Passive = 0
element_mode_offset Declarative = 0
element_mode_offset (Active table offset) = length offset

abbrev pub element_offset : ElementSegment → ℕ
element_offset e = element_mode_offset e.mode

abbrev pub data_mode_offset : DataMode → ℕ
data_mode_offset data_mode.Passive = 0
data_mode_offset (data_mode.Active memory offset) = length offset

abbrev pub data_offset : DataSegment → ℕ
data_offset d = data_mode_offset d.mode

-- There is room for an operand for each instruction.
abbrev pub HaveRoom : {A : Type 0} → (A → ℕ) → (room : ℕ) → List A → Type 0
HaveRoom offset room segments = All (λ s. offset s ≤ room) segments

-- There is such room for all segments of a module.
pub record HasRoomForOffsets (room : ℕ) (m : Module) : Type 0 where
  pub elements : HaveRoom element_offset room m.elements
  pub datas : HaveRoom data_offset room m.datas
