use Rattle.core_types.specs.declared.module.Module.{Module}
use Rattle.meaning.specs.execution.Modules.{new_global}
use Rattle.store.specs.Contents.{Contents, lists_of, module_instance, store_with}
use Rattle.meaning.proofs.lemmas.Lists.{SoFar}
use Rattle.instantiate.proofs.objects.new_globals.Given as goal

abbrev pub invariant-loop-k : goal.invariant-loop-k
invariant-loop-k l =
    (code : Contents) (m : Module) → SoFar (new_global (store_with code l.state) (module_instance (lists_of l.addresses) m)) l.wanted l.k l.globals.items
