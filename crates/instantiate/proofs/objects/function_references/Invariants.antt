use Rattle.std.proofs.Common.{ℕ}
use Rattle.core_types.specs.declared.module.Module.{Module}
use Rattle.core_types.specs.declared.op.PlainOp.TheVariants.{Reference}
use Rattle.core_types.specs.declared.op.ReferenceOp.TheVariants.{Func}
use Rattle.meaning.specs.execution.Modules.{constant}
use Rattle.store.specs.Contents.{Contents, lists_of, module_instance, store_with}
use Rattle.meaning.proofs.lemmas.Lists.{SoFar}
use Rattle.instantiate.proofs.objects.function_references.Given as goal

abbrev pub invariant-loop-k : goal.invariant-loop-k
invariant-loop-k l =
    (code : Contents) (m : Module) → SoFar (λ (x : ℕ). constant (store_with code l.state) (module_instance (lists_of l.addresses) m) (Reference (Func x))) l.indices l.k l.found.items
