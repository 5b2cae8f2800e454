use Rattle.meaning.proofs.lemmas.Typing.{HasType-weakening}
use Rattle.meaning.proofs.validation.operands_below_stay.Goals as goal

pub returns : goal.returns
returns c = HasType-weakening
