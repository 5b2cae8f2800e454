use Rattle.std.proofs.Common.{◌∙◌, ◌++◌, ◌∷◌, [], ap, arith, sym, take, List, ℕ}
use Rattle.std.proofs.lemmas.List.{take_more}
use Rattle.core_types.specs.declared.module.Import.{Import}
use Rattle.meaning.specs.validation.Modules.{imported_functions}
use Rattle.sidetable.proofs.Functions.{imported-append}
use Rattle.sidetable.proofs.module_types.imported.Goals as goal

pub loop-import-preserved : goal.loop-import-preserved
loop-import-preserved c =
    let before = take c.loop-import.import-index c.args.imports.now in
    let more = take_more c.args.imports.now c.loop-import.import-index c.import-item.result (omega arith) ∙ ap (λ (i : Import). before ++ (i ∷ [])) (sym c.import-item.is) in
    c.in_ok-push_imported.ensures ∙ ap (λ (xs : List ℕ). xs ++ imported_functions (c.import-item.result ∷ [])) c.loop-import.invariant
    ∙ sym (imported-append before (c.import-item.result ∷ [])) ∙ ap imported_functions (sym more)
