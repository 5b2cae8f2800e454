use Rattle.std.proofs.Common.{◌≡◌, ◌-◌, []}
use Rattle.binary.specs.Sections.{groups_at}
use Rattle.binary.proofs.sections.code.read_groups.Given as goal

-- the rest of the reading gives what the whole reading gives
abbrev pub invariant-loop : goal.invariant-loop
invariant-loop l = groups_at (l.count - l.counter) l.locals l.reader ≡ groups_at l.count [] l.fn.reader
