use Rattle.std.proofs.Common.{◌≡◌, drop}
use Rattle.meaning.specs.validation.Modules.{named_by_globals}
use Rattle.validator.specs.References.{set_marks}
use Rattle.validator.proofs.context.references.mark_globals.Given as goal

abbrev pub invariant-loop-global : goal.invariant-loop-global
invariant-loop-global l = set_marks l.marks (named_by_globals (drop l.global-index l.globals)) ≡ set_marks l.fn.marks (named_by_globals l.fn.globals)
