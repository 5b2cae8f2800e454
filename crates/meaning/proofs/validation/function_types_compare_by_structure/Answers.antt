use Rattle.meaning.proofs.lemmas.SameTypes.{function-type-same, same-function-type}
use Rattle.meaning.proofs.validation.function_types_compare_by_structure.Goals as goal

pub returns : goal.returns
returns c = λ t u. (same-function-type t u, λ e. rw e (function-type-same u))
