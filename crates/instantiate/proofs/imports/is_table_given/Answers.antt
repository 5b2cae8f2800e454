use Rattle.std.proofs.Common.{ap, refl, sym}
use Rattle.std.specs.Prelude.{Some, option_map}
use Rattle.core_types.specs.declared.outcome.Extern.TheVariants.{Table as TableValue}
use Rattle.core_types.specs.declared.types.ExternType.TheVariants.{Table}
use Rattle.meaning.specs.execution.Tables.{TableInstance}
use Rattle.store.specs.Contents.{store_of}
use Rattle.instantiate.proofs.lemmas.Imports.{is_given-by}
use Rattle.instantiate.proofs.imports.is_table_given.Goals as goal

pub returns-in-Some : goal.returns-in-Some
returns-in-Some c =
    let there = ap (option_map (λ (table : TableInstance). Table table.ty)) (sym (rw c.state.ensures.same at c.in-Some.ensures)) in
    is_given-by (store_of c.args.store.now) (TableValue c.args.address) (Some (Table c.args.wanted)) c.matches.result (Table c.ty.result)
    (Table c.args.wanted) (rw c.ty.ensures there) refl c.matches.ensures
