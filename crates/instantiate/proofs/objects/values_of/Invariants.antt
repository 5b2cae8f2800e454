use Rattle.core_types.specs.declared.module.Module.{Module}
use Rattle.meaning.specs.execution.Modules.{constant_value}
use Rattle.store.specs.Contents.{Contents, lists_of, module_instance, store_with}
use Rattle.meaning.proofs.lemmas.Lists.{SoFar}
use Rattle.instantiate.proofs.objects.values_of.Given as goal

abbrev pub invariant-loop-k : goal.invariant-loop-k
invariant-loop-k l =
    (code : Contents) (m : Module) → SoFar (constant_value (store_with code l.state) (module_instance (lists_of l.addresses) m)) l.expressions l.k l.found.items
