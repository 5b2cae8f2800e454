use Rattle.std.proofs.lemmas.Result.{IfOk-weaker}
use Rattle.subcommands.specs.Embeddings.{in_call, in_link}
use Rattle.subcommands.proofs.calls.call.Goals as goal

pub returns-in-Linked : goal.returns-in-Linked
returns-in-Linked g c =
    let link = rw c.in-Linked.is at c.in_ok-instance.ensures in
    IfOk-weaker c.call_export.result _ _
    (λ outcome ends. in_call (c.in_ok-loaded.ensures.applied, c.in_ok-loaded.ensures.goes_well, tt) (link.applied, link.goes_well, link.as_said)
    ends) c.call_export.ensures

pub returns-in-Trap : goal.returns-in-Trap
returns-in-Trap g c =
    let link = rw c.in-Trap.is at c.in_ok-instance.ensures in
    in_link (c.in_ok-loaded.ensures.applied, c.in_ok-loaded.ensures.goes_well, tt) (link.applied, link.goes_well, link.as_said)

pub returns-in-Exhausted : goal.returns-in-Exhausted
returns-in-Exhausted g c =
    let link = rw c.in-Exhausted.is at c.in_ok-instance.ensures in
    in_link (c.in_ok-loaded.ensures.applied, c.in_ok-loaded.ensures.goes_well, tt) (link.applied, link.goes_well, link.as_said)
