use Rattle.std.proofs.Common.{◌≡◌, false, length, ltb, arith}
use Rattle.std.proofs.lemmas.Bool.{le-ltb}
use Rattle.binary.specs.Values.{part_at}
use Rattle.binary.proofs.reader.Reader.part.Goals as goal

pub returns : goal.returns
unfolding part_at
returns c =
    let long : ltb (length c.self.inside.rest.now) c.in_ok-size.field-0 ≡ false = le-ltb _ _ (omega arith) in
    rw (c.in_ok-size.ensures, c.advance.ensures, ← c.self.view_is, long)
