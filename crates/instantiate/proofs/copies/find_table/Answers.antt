use Rattle.std.proofs.Common.{sym}
use Rattle.std.proofs.lemmas.Option.{slice_get-get_or, slice_get_within}
use Rattle.store.specs.State.{no_table}
use Rattle.instantiate.proofs.lemmas.Copies.{located, not-located, not-named}
use Rattle.instantiate.proofs.copies.find_table.Goals as goal

pub returns-in_err-address : goal.returns-in_err-address
returns-in_err-address c = rw c.from_residual.ensures (not-named c.args.state.now.contents.tables _ c.in_err-address.ensures)

pub returns-in_err-table : goal.returns-in_err-table
returns-in_err-table c = rw c.from_residual-in_err-table.ensures (not-located c.args.state.now.contents.tables _ c.in_ok-address.address c.in_ok-address.ensures (sym c.in_err-table.ensures))

pub returns : goal.returns
returns c =
    let items = c.args.state.now.contents.tables in
    let within = slice_get_within items c.in_ok-address.address _ (sym c.in_ok-table.ensures) in
    (within, located items _ c.in_ok-address.address _ c.in_ok-address.ensures (slice_get-get_or items c.in_ok-address.address no_table within))
