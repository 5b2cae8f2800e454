use Rattle.std.proofs.lemmas.Result.{on_ok_weaker}
use Rattle.subcommands.proofs.performing.check_file.Goals as goal

pub returns : goal.returns
returns g c = on_ok_weaker c.check_bytes.result (λ valid. (c.in_ok-bytes.bytes.items, c.in_ok-bytes.ensures.read, valid)) (rw c.as_slice.ensures.value at c.check_bytes.ensures)
