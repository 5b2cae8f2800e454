use Rattle.std.proofs.Common.{◌≡◌, drop}
use Rattle.meaning.specs.validation.Modules.{named_by_elements}
use Rattle.validator.specs.References.{set_marks}
use Rattle.validator.proofs.context.references.mark_elements.Given as goal

abbrev pub invariant-loop-element : goal.invariant-loop-element
invariant-loop-element l = set_marks l.marks (named_by_elements (drop l.element-index l.elements)) ≡ set_marks l.fn.marks (named_by_elements l.fn.elements)
