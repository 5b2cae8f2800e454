use Rattle.std.proofs.Common.{ap, refl, sym}
use Rattle.std.specs.Prelude.{Some, option_map}
use Rattle.core_types.specs.declared.outcome.Extern.TheVariants.{Memory as MemoryValue}
use Rattle.core_types.specs.declared.types.ExternType.TheVariants.{Memory}
use Rattle.meaning.specs.execution.Memories.{MemoryInstance}
use Rattle.store.specs.Contents.{store_of}
use Rattle.instantiate.proofs.lemmas.Imports.{is_given-by}
use Rattle.instantiate.proofs.imports.is_memory_given.Goals as goal

pub returns-in-Some : goal.returns-in-Some
returns-in-Some c =
    let there = ap (option_map (λ (memory : MemoryInstance). Memory memory.limits)) (sym (rw c.state.ensures.same at c.in-Some.ensures)) in
    is_given-by (store_of c.args.store.now) (MemoryValue c.args.address) (Some (Memory c.args.wanted)) c.matches.result (Memory c.limits.result)
    (Memory c.args.wanted) (rw c.limits.ensures there) refl c.matches.ensures
