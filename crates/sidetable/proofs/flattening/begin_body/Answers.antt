use Rattle.sidetable.proofs.flattening.begin_body.Goals as goal

pub returns-clause-starts : goal.returns-clause-starts
returns-clause-starts c =
    let entry = c.in_ok-outermost.ensures in
    record { tables = entry.entries; outer = entry.number; levels = c.clear.ensures; height = c.new-f.ensures.here; greatest = c.new-f.ensures.greatest }
