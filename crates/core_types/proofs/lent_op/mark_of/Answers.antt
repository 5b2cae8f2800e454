use denote.Ref.{Bor}
use Rattle.core_types.specs.declared.op.Op.{Op}
use Rattle.core_types.proofs.Marks.{plain_unless_mark}
use Rattle.core_types.proofs.lent_op.mark_of.Goals as goal

pub returns-in_default-clause-none : goal.returns-in_default-clause-none
returns-in_default-clause-none c =
    let n = c.in_default in
    plain_unless_mark (λ (o : Bor Op). o.now) c.args.op n.not-Block n.not-Loop n.not-If n.not-Else n.not-End n.not-Other
