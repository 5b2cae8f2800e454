use Rattle.std.proofs.Common.{◌≡◌, drop, length}
use Rattle.meaning.specs.scripts.Runner.{same_values}
use Rattle.scripts.proofs.passing.are_same.Given as goal

abbrev pub invariant-loop-k : goal.invariant-loop-k
invariant-loop-k l = record {
  same_length : length l.values ≡ length l.others;
  so_far : same_values (drop l.k l.values) (drop l.k l.others) ≡ same_values l.values l.others;
}
