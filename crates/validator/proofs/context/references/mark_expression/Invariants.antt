use Rattle.std.proofs.Common.{◌≡◌, drop}
use Rattle.meaning.specs.validation.Modules.{named_by}
use Rattle.validator.specs.References.{set_marks}
use Rattle.validator.proofs.context.references.mark_expression.Given as goal

abbrev pub invariant-loop-k : goal.invariant-loop-k
invariant-loop-k l = set_marks l.marks (named_by (drop l.k l.ops)) ≡ set_marks l.fn.marks (named_by l.fn.ops)
