-- Globals are read as they are encoded.
use Rattle.std.proofs.Common.{refl}
use Rattle.meaning.specs.binary.Modules.{SpellsGlobal}
use Rattle.binary.specs.Sections.{global_at, global_of}
use Rattle.binary.proofs.exactness.Choices.{mapped_reader, pair_reader}
use Rattle.binary.proofs.exactness.Expressions.{expression_reader}
use Rattle.binary.proofs.exactness.Readers.{IsReader}
use Rattle.binary.proofs.exactness.Types.{global_type_reader}

pub global_reader : IsReader SpellsGlobal global_at
unfolding global_at
global_reader =
    mapped_reader global_of (pair_reader global_type_reader expression_reader) (λ text parts spelt. spelt)
    (λ text g spelt. ((g.ty, g.init), spelt, refl))
