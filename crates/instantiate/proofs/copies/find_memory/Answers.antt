use Rattle.std.proofs.Common.{sym}
use Rattle.std.proofs.lemmas.Option.{slice_get-get_or, slice_get_within}
use Rattle.store.specs.State.{no_memory}
use Rattle.instantiate.proofs.lemmas.Copies.{located, not-located, not-named}
use Rattle.instantiate.proofs.copies.find_memory.Goals as goal

pub returns-in_err-address : goal.returns-in_err-address
returns-in_err-address c = rw c.from_residual.ensures (not-named c.args.state.now.contents.memories _ c.in_err-address.ensures)

pub returns-in_err-memory : goal.returns-in_err-memory
returns-in_err-memory c = rw c.from_residual-in_err-memory.ensures (not-located c.args.state.now.contents.memories _ c.in_ok-address.address c.in_ok-address.ensures (sym c.in_err-memory.ensures))

pub returns : goal.returns
returns c =
    let items = c.args.state.now.contents.memories in
    let within = slice_get_within items c.in_ok-address.address _ (sym c.in_ok-memory.ensures) in
    (within, located items _ c.in_ok-address.address _ c.in_ok-address.ensures (slice_get-get_or items c.in_ok-address.address no_memory within))
