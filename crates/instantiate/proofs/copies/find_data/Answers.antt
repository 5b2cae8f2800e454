use Rattle.std.proofs.Common.{[], sym}
use Rattle.std.proofs.lemmas.Option.{slice_get-get_or, slice_get_within}
use Rattle.instantiate.proofs.lemmas.Copies.{located, not-located, not-named}
use Rattle.instantiate.proofs.copies.find_data.Goals as goal

pub returns-in_err-address : goal.returns-in_err-address
returns-in_err-address c = rw c.from_residual.ensures (not-named c.args.state.now.contents.datas _ c.in_err-address.ensures)

pub returns-in_err-data_segment : goal.returns-in_err-data_segment
returns-in_err-data_segment c = rw c.from_residual-in_err-data_segment.ensures
    (not-located c.args.state.now.contents.datas _ c.in_ok-address.address c.in_ok-address.ensures (sym c.in_err-data_segment.ensures))

pub returns : goal.returns
returns c =
    let items = c.args.state.now.contents.datas in
    let within = slice_get_within items c.in_ok-address.address _ (sym c.in_ok-data_segment.ensures) in
    (within, located items _ c.in_ok-address.address _ c.in_ok-address.ensures (slice_get-get_or items c.in_ok-address.address (record { bytes = [] }) within))
