use Rattle.std.proofs.Common.{◌≡◌, ◌++◌, length}
use Rattle.std.specs.Prelude.{flat_map}
use Rattle.messages.specs.Types.{type_bytes}
use Rattle.messages.proofs.types.split_types.Given as goal

abbrev pub invariant-loop-i : goal.invariant-loop-i
invariant-loop-i l = record {
  counted : length l.types.items ≡ l.i;
  read : flat_map type_bytes l.types.items ++ l.rest ≡ l.initial.rest;
}
