-- What element and data segments have in common: the number of a form, and an index with an offset.
use Rattle.std.proofs.Common.{List, refl, ℕ, ◌++◌}
use Rattle.meaning.specs.binary.Conventions.{SpellsPair}
use Rattle.meaning.specs.binary.Instructions.{SpellsFlat}
use Rattle.meaning.specs.binary.Modules.{SpellsForm}
use Rattle.meaning.specs.binary.Values.{SpellsIndex, SpellsUnsigned}
use Rattle.core_types.specs.reading.Conventions.{Reading, mapped_at}
use Rattle.binary.specs.Sections.{target_at}
use Rattle.binary.proofs.exactness.Choices.{SoundCase, behind_sound, pair_reader}
use Rattle.binary.proofs.exactness.Expressions.{expression_reader}
use Rattle.binary.proofs.exactness.Readers.{IsReader, Spelling}
use Rattle.binary.proofs.exactness.Values.{index_reader}

pub target_reader : IsReader (SpellsPair SpellsIndex SpellsFlat) target_at
unfolding target_at
target_reader = pair_reader index_reader expression_reader

-- the number of a form, and what follows it
pub form_sound : {A V : Type 0} {Inner : Spelling A} {Spells : Spelling V} {read : Reading A} (form : ℕ) (into : A → V)
    → IsReader Inner read → ((text : List ℕ) (a : A) → SpellsForm form Inner text a → Spells text (into a))
    → SoundCase (SpellsUnsigned 32) Spells form (mapped_at into read)
form_sound form into reader spelt =
    behind_sound into reader (λ front text a f inner. spelt (front ++ text) a (front, text, refl, f, inner))
