use Rattle.std.proofs.Common.{◌++◌, ap, ◌∙◌, arith}
use Rattle.std.proofs.lemmas.Grind.{common_steps}
use Rattle.messages.proofs.numbers.split_number.Goals as goal

pub returns-clause-found : goal.returns-clause-found
returns-clause-found c =
    let behind = c.in_ok-front.behind.now in
    ap (λ bytes. bytes ++ behind) c.read_number.ensures ∙ grind (arith, common_steps, c.in_ok-front.ensures.cases)
