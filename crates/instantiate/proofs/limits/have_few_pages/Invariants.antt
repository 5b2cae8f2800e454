use Rattle.std.proofs.Common.{◌≤◌, take}
use Rattle.std.specs.List.{All}
use Rattle.core_types.specs.declared.types.Limits.{Limits}
use Rattle.instantiate.proofs.limits.have_few_pages.Given as goal

abbrev pub invariant-loop-k : goal.invariant-loop-k
invariant-loop-k l = All (λ (s : Limits). s.min ≤ l.pages) (take l.k l.memories)
