use Rattle.std.proofs.Common.{[], ◌∷◌, refl}
use Rattle.isolation.specs.Reach.{onward, start}
use Rattle.isolation.specs.Rows.{instance_with}
use Rattle.isolation.proofs.rows.a_memory_of_two_instances_is_shared.Goals as goal

pub returns : goal.returns
returns c apart = apart.memories 0 (onward (start refl) (instance_with 0, refl, (0, refl))) (onward (start refl) (record (instance_with 1) { memories = 0 ∷ [] }, refl, (0, refl)))
