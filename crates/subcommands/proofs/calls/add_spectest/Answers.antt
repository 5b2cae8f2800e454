use Rattle.subcommands.proofs.Loading.{with-spectest}
use Rattle.subcommands.proofs.calls.add_spectest.Goals as goal

pub returns : goal.returns
returns g c =
    let applied = c.in_ok-apply_all.ensures.applied in
    with-spectest _ applied.0 c.check_replies.result applied.2 (rw c.as_slice.ensures.value c.in_ok-commands.ensures)
    (rw (c.as_slice-2.ensures.value, applied.1, c.new-replies.ensures.items) at c.check_replies.ensures)
