use Rattle.binary.proofs.exactness.Modules.{spelt_once}
use Rattle.binary.proofs.laws.bytes_spell_one_module.Goals as goal

pub returns : goal.returns
returns c = spelt_once
