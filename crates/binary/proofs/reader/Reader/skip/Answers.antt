use Rattle.std.proofs.Common.{ap, sym, List, ℕ, ◌∙◌}
use Rattle.std.specs.Prelude.{Some}
use Rattle.binary.proofs.loops.Values.{first_is_read}
use Rattle.binary.proofs.reader.Reader.skip.Goals as goal

pub returns : goal.returns
returns c byte is =
    first_is_read c.args.self.now byte is ∙ ap (λ (z : List ℕ). Some (byte, z)) (sym c.advance.ensures)
