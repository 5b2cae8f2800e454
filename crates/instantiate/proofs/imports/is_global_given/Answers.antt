use Rattle.std.proofs.Common.{ap, refl, sym}
use Rattle.std.specs.Prelude.{Some, option_map}
use Rattle.core_types.specs.declared.outcome.Extern.TheVariants.{Global as GlobalValue}
use Rattle.core_types.specs.declared.types.ExternType.TheVariants.{Global}
use Rattle.meaning.specs.execution.Store.{GlobalInstance}
use Rattle.store.specs.Contents.{store_of}
use Rattle.instantiate.proofs.lemmas.Imports.{is_given-by}
use Rattle.instantiate.proofs.imports.is_global_given.Goals as goal

pub returns-in-Some : goal.returns-in-Some
returns-in-Some c =
    let there = ap (option_map (λ (variable : GlobalInstance). Global variable.ty)) (sym (rw c.state.ensures.same at c.in-Some.ensures)) in
    is_given-by (store_of c.args.store.now) (GlobalValue c.args.address) (Some (Global c.args.wanted)) c.matches.result (Global c.ty.result)
    (Global c.args.wanted) (rw c.ty.ensures there) refl c.matches.ensures
