use Rattle.std.proofs.Common.{◌≡◌, drop}
use Rattle.meaning.specs.validation.Modules.{named_by_each}
use Rattle.validator.specs.References.{set_marks}
use Rattle.validator.proofs.context.references.mark_expressions.Given as goal

abbrev pub invariant-loop-ops : goal.invariant-loop-ops
invariant-loop-ops l = set_marks l.marks (named_by_each (drop l.ops-index l.expressions)) ≡ set_marks l.fn.marks (named_by_each l.fn.expressions)
