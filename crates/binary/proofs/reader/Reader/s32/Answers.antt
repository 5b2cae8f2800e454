use Rattle.std.proofs.Common.{rules, w32, FitsSigned}
use Rattle.std.proofs.lemmas.Int.{to_z-of_z}
use Rattle.binary.proofs.exactness.Integers.{signed_reader}
use Rattle.binary.proofs.exactness.Readers.{read_none, read_some}
use Rattle.binary.proofs.reader.Reader.s32.Goals as goal

pub returns-in_default : goal.returns-in_default
returns-in_default c = rw (← c.self.view_is) (read_none _ (signed_reader 32) c.in_default.ensures.none)

pub returns : goal.returns
returns c =
    let fits : FitsSigned w32 c.in-Some.value = search rules in
    rw (c.advance.ensures, ← c.self.view_is, to_z-of_z) (read_some _ _ _ (signed_reader 32) c.in-Some.ensures.found)
