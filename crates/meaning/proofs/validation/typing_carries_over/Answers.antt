use Rattle.meaning.proofs.lemmas.Contexts.{HasType-extension}
use Rattle.meaning.proofs.validation.typing_carries_over.Goals as goal

pub returns : goal.returns
returns c = HasType-extension
