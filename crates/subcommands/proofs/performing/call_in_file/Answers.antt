use Rattle.std.proofs.lemmas.Result.{IfOk-weaker}
use Rattle.subcommands.proofs.performing.call_in_file.Goals as goal

pub returns : goal.returns
returns g c =
    IfOk-weaker c.call_in_bytes.result _ _ (λ call calls. (c.in_ok-bytes.bytes.items, c.in_ok-bytes.ensures.read, calls)) (rw c.as_slice.ensures.value at c.call_in_bytes.ensures)
