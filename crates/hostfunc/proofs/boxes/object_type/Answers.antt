use Rattle.std.proofs.Common.{ap, ◌∙◌}
use Rattle.hostfunc.proofs.boxes.object_type.Goals as goal

pub returns : goal.returns
returns g c = c.ty.ensures ∙ ap (λ p. (goal.HostFn-dyn g p).declared p.1) c.as_ref.ensures.1
