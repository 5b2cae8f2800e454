use Rattle.std.proofs.Common.{◌∷◌, [], ◌∙◌, ◌+◌, ℕ, ap, length-append}
use Rattle.std.specs.Prelude.{Some}
use Rattle.sidetable.specs.Flat.{Leave, flat, function_entry}
use Rattle.sidetable.proofs.Lengths.{as-many}
use Rattle.sidetable.proofs.laws.operations_are_as_many_as_the_size.Goals as goal

pub returns : goal.returns
returns c = λ s locals results at body.
    let e = function_entry locals results at body in
    length-append (flat s e (e ∷ []) (Some locals) at body) (Leave results ∷ []) ∙ ap (λ (n : ℕ). n + 1) (as-many s e body (e ∷ []) (Some locals) at)
