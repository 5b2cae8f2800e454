-- The encodings of types (Binary Format, Types).
use Rattle.std.specs.Prelude.{◌≡◌, ℕ, List, [], ◌∷◌, pos, Option, Some, None}
use Rattle.core_types.specs.declared.op.BlockType.{BlockType}
use Rattle.core_types.specs.declared.op.BlockType.TheVariants as block
use Rattle.core_types.specs.declared.types.ValType.{ValType}
use Rattle.core_types.specs.declared.types.ValType.TheVariants as value
use Rattle.core_types.specs.declared.types.RefType.{RefType}
use Rattle.core_types.specs.declared.types.RefType.TheVariants as reference
use Rattle.core_types.specs.declared.types.FuncType.{FuncType}
use Rattle.core_types.specs.declared.types.Limits.{Limits}
use Rattle.core_types.specs.declared.types.TableType.{TableType}
use Rattle.core_types.specs.declared.types.Mutability.{Mutability}
use Rattle.core_types.specs.declared.types.Mutability.TheVariants as mutability
use Rattle.core_types.specs.declared.types.GlobalType.{GlobalType}
use Rattle.meaning.specs.binary.Values.{SpellsSigned, SpellsUnsigned, SpellsVector}
use Rattle.meaning.specs.binary.Conventions.{SpellsBoth, SpellsPair, SpellsTagged}

-- Value Types.
abbrev pub SpellsValType : List ℕ → ValType → Type 0
SpellsValType bytes value.I32 = bytes ≡ 0x7F ∷ []
SpellsValType bytes value.I64 = bytes ≡ 0x7E ∷ []
SpellsValType bytes value.FuncRef = bytes ≡ 0x70 ∷ []
SpellsValType bytes value.ExternRef = bytes ≡ 0x6F ∷ []

-- Reference Types.
abbrev pub SpellsRefType : List ℕ → RefType → Type 0
SpellsRefType bytes reference.FuncRef = bytes ≡ 0x70 ∷ []
SpellsRefType bytes reference.ExternRef = bytes ≡ 0x6F ∷ []

-- Function Types: the parameters, and then the results.
abbrev pub SpellsFuncType : List ℕ → FuncType → Type 0
SpellsFuncType bytes t =
    SpellsTagged 0x60 (SpellsPair (SpellsVector SpellsValType) (SpellsVector SpellsValType)) bytes
    (t.params, t.results)

-- A least number, and a greatest one that may be missing.
abbrev pub SpellsBounds : List ℕ → ℕ → Option ℕ → Type 0
SpellsBounds bytes min None = SpellsTagged 0x00 (SpellsUnsigned 32) bytes min
SpellsBounds bytes min (Some max) =
    SpellsTagged 0x01 (SpellsPair (SpellsUnsigned 32) (SpellsUnsigned 32)) bytes (min, max)

-- Limits. Those of a memory are its type (Memory Types).
abbrev pub SpellsLimits : List ℕ → Limits → Type 0
SpellsLimits bytes limits = SpellsBounds bytes limits.min limits.max

-- Table Types.
abbrev pub SpellsTableType : List ℕ → TableType → Type 0
SpellsTableType bytes t = SpellsBoth SpellsRefType SpellsLimits bytes t.element t.limits

-- Whether a global may be set.
abbrev pub SpellsMutability : List ℕ → Mutability → Type 0
SpellsMutability bytes mutability.Const = bytes ≡ 0x00 ∷ []
SpellsMutability bytes mutability.Var = bytes ≡ 0x01 ∷ []

-- Global Types.
abbrev pub SpellsGlobalType : List ℕ → GlobalType → Type 0
SpellsGlobalType bytes t = SpellsBoth SpellsValType SpellsMutability bytes t.value t.mutability

-- The type of a block (Control Instructions): an index is a signed number of 33 bits that is not negative.
abbrev pub SpellsBlockType : List ℕ → BlockType → Type 0
SpellsBlockType bytes block.Empty = bytes ≡ 0x40 ∷ []
SpellsBlockType bytes (block.Value t) = SpellsValType bytes t
SpellsBlockType bytes (block.Index x) = SpellsSigned 33 bytes (pos x)
