use Rattle.meaning.proofs.lemmas.Typing.{HasType-after, HasType-before, HasType-joined}
use Rattle.meaning.proofs.validation.typing_composes.Goals as goal

pub returns-clause-before : goal.returns-clause-before
returns-clause-before c = HasType-before

pub returns-clause-after : goal.returns-clause-after
returns-clause-after c = HasType-after

pub returns-clause-joined : goal.returns-clause-joined
returns-clause-joined c = HasType-joined
