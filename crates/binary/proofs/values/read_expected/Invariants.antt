use Rattle.std.proofs.Common.{◌≡◌, drop}
use Rattle.core_types.specs.reading.Values.{expected_at}
use Rattle.binary.proofs.values.read_expected.Given as goal

-- the rest of the reading gives what the whole reading gives
abbrev pub invariant-loop-byte : goal.invariant-loop-byte
invariant-loop-byte l = expected_at (drop l.byte-index l.expected) l.reader ≡ expected_at l.expected l.fn.reader
