use Rattle.std.proofs.Common.{◌<◌, length, rules}
use Rattle.interpreter.proofs.Executing.{operations-execute, place-fits}
use Rattle.interpreter.proofs.reading.fetch.Goals as goal

pub bounds-operations-at : goal.bounds-operations-at
bounds-operations-at c = let (g, r) = c.requires.sound in rw c.requires.code (operations-execute _ _ g r).0

pub offset_bounds-operations-at : goal.offset_bounds-operations-at
offset_bounds-operations-at c =
    let (g, r) = c.requires.sound in
    let inside : c.args.at.place < length c.args.operations.now = rw c.requires.code (operations-execute _ _ g r).0 in
    search (rules, inside)

pub returns-clause-inside : goal.returns-clause-inside
returns-clause-inside c = let (g, r) = c.requires.sound in rw c.requires.code (operations-execute _ _ g r).0

pub returns-clause-next : goal.returns-clause-next
returns-clause-next c = let (g, r) = c.requires.sound in place-fits _ _ g r

pub returns-clause-fits : goal.returns-clause-fits
returns-clause-fits c = let (g, r) = c.requires.sound in rw c.requires.code ((operations-execute _ _ g r).1 _).0

pub returns-clause-executes : goal.returns-clause-executes
returns-clause-executes c g r = rw c.requires.code ((operations-execute _ _ g r).1 _).1
