use denote.Ref.{Bor}
use Rattle.core_types.specs.declared.op.Op.{Op}
use Rattle.core_types.proofs.Marks.{plain_unless_mark}
use Rattle.core_types.proofs.lent_op.is_mark.Goals as goal

pub returns-in_default-matches-2-clause-plain : goal.returns-in_default-matches-2-clause-plain
returns-in_default-matches-2-clause-plain c = λ no.
    let n = c.in_default-matches-2 in
    plain_unless_mark (λ (o : Bor Op). o.now) c.args.op n.not-Block n.not-Loop n.not-If n.not-Else n.not-End c.in_default.not-Other
