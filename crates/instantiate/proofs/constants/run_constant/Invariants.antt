use Rattle.std.proofs.Common.{◌≤◌}
use Rattle.std.specs.Prelude.{vec_capacity, vec_len}
use Rattle.core_types.specs.declared.module.Module.{Module}
use Rattle.store.specs.Contents.{Contents, lists_of, module_instance, store_with}
use Rattle.instantiate.proofs.lemmas.Constants.{IsRunFrom}
use Rattle.instantiate.proofs.constants.run_constant.Given as goal

abbrev pub invariant-loop-k : goal.invariant-loop-k
invariant-loop-k l =
    (vec_len l.operands ≤ l.k) × (vec_capacity l.initial.operands ≤ vec_capacity l.operands)
    × ((contents : Contents) (m : Module) → IsRunFrom (store_with contents l.state) (module_instance (lists_of l.addresses) m) l.code l.k l.operands.items)
