use Rattle.std.proofs.Common.{◌≡◌, ◌-◌, []}
use Rattle.core_types.specs.reading.Values.{each_at}
use Rattle.binary.proofs.values.read_each.Given as goal

-- the rest of the reading gives what the whole reading gives
abbrev pub invariant-loop : goal.invariant-loop
invariant-loop g l =
    each_at g.T.Readable.reads (l.count - l.counter) l.values.items l.reader ≡ each_at g.T.Readable.reads l.count [] l.fn.reader
