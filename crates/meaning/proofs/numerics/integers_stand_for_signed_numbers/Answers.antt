use Rattle.meaning.proofs.lemmas.Formulas.{back, least, greatest}
use Rattle.meaning.proofs.numerics.integers_stand_for_signed_numbers.Goals as goal

pub returns-clause-back : goal.returns-clause-back
returns-clause-back c = back

pub returns-clause-least : goal.returns-clause-least
returns-clause-least c = least

pub returns-clause-greatest : goal.returns-clause-greatest
returns-clause-greatest c = greatest
