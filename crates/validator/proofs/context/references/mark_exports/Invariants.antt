use Rattle.std.proofs.Common.{◌≡◌, drop}
use Rattle.meaning.specs.validation.Modules.{named_by_exports}
use Rattle.validator.specs.References.{set_marks}
use Rattle.validator.proofs.context.references.mark_exports.Given as goal

abbrev pub invariant-loop-export : goal.invariant-loop-export
invariant-loop-export l = set_marks l.marks (named_by_exports (drop l.export-index l.exports)) ≡ set_marks l.fn.marks (named_by_exports l.fn.exports)
