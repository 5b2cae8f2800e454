use Rattle.sidetable.proofs.packing.unary.Goals as goal

pub returns-in-W32 : goal.returns-in-W32
returns-in-W32 c = rw c.in-W32.is c.i32_unary.ensures

pub returns-in-W64 : goal.returns-in-W64
returns-in-W64 c = rw c.in-W64.is c.i64_unary.ensures
