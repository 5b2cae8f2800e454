use Rattle.binary.proofs.exactness.Integers.{unsigned_reader}
use Rattle.binary.proofs.exactness.Readers.{read_none, read_some}
use Rattle.binary.proofs.reader.Reader.u32.Goals as goal

pub returns-in_default : goal.returns-in_default
returns-in_default c = rw (← c.self.view_is) (read_none _ (unsigned_reader 32) c.in_default.ensures.none)

pub returns : goal.returns
returns c = rw (c.advance.ensures, ← c.self.view_is) (read_some _ _ _ (unsigned_reader 32) c.in-Some.ensures.found)
