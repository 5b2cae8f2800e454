use Rattle.std.proofs.Common.{rules, w64, FitsSigned}
use Rattle.std.proofs.lemmas.Int.{to_z-of_z}
use Rattle.binary.proofs.exactness.Integers.{signed_reader}
use Rattle.binary.proofs.exactness.Readers.{read_none, read_some}
use Rattle.binary.proofs.reader.Reader.s33.Goals as goal

pub returns-in_default-clause-gives : goal.returns-in_default-clause-gives
returns-in_default-clause-gives c =
    rw (← c.self.view_is) (read_none _ (signed_reader 33) c.in_default.ensures.none)

pub returns-clause-gives : goal.returns-clause-gives
returns-clause-gives c =
    let fits : FitsSigned w64 c.in-Some.value = search rules in
    rw (c.advance.ensures, ← c.self.view_is, to_z-of_z) (read_some _ _ _ (signed_reader 33) c.in-Some.ensures.found)
