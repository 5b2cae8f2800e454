use Rattle.std.proofs.Common.{refl}
use Rattle.core_types.specs.declared.module.ElementSegment.{ElementSegment}
use Rattle.meaning.specs.validation.Modules.{named_by_elements, named_by_items}
use Rattle.validator.proofs.References.{marked_next}
use Rattle.validator.proofs.context.references.mark_elements.Goals as goal

pub loop-element-preserved : goal.loop-element-preserved
loop-element-preserved c =
    marked_next (λ (e : ElementSegment). named_by_items e.items) named_by_elements (λ _ _. refl) c.args.elements.now c.loop-element.element-index
    c.element-item.result c.loop-element.marks c.mark_items.new.marks _ c.loop-element-test.true c.element-item.is c.mark_items.ensures
    c.loop-element.invariant
