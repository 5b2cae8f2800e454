use Rattle.std.proofs.Common.{refl}
use Rattle.core_types.specs.declared.module.Global.{Global}
use Rattle.meaning.specs.validation.Modules.{named_by, named_by_globals}
use Rattle.validator.proofs.References.{marked_next}
use Rattle.validator.proofs.context.references.mark_globals.Goals as goal

pub loop-global-preserved : goal.loop-global-preserved
loop-global-preserved c =
    marked_next (λ (g : Global). named_by g.init) named_by_globals (λ _ _. refl) c.args.globals.now c.loop-global.global-index c.global-item.result
    c.loop-global.marks c.mark_expression.new.marks _ c.loop-global-test.true c.global-item.is c.mark_expression.ensures c.loop-global.invariant
