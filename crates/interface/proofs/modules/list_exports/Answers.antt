use Rattle.std.proofs.Common.{◌∷◌, [], ◌∙◌, ap, get_or, length, subst, sym, take, ◌<◌}
use Rattle.std.specs.Prelude.{filter_map}
use Rattle.std.proofs.lemmas.List.Elements.{filter_map-append}
use Rattle.std.proofs.lemmas.List.{take_more}
use Rattle.interface.specs.Listings.{AreExports, typed_export}
use Rattle.interface.proofs.modules.list_exports.Goals as goal

pub loop-export-preserved : goal.loop-export-preserved
loop-export-preserved c =
    let typed = typed_export c.args.types.now c.args.spaces.now in
    let items = c.args.exports.now in
    let k = c.loop-export.export-index in
    let inside : k < length items = c.loop-export-test.true in
    let next = ap (filter_map typed) (take_more items k c.export-item.result inside) ∙ filter_map-append typed (take k items) (get_or items k c.export-item.result ∷ []) in
    let more = rw (← c.export-item.is) at next in
    record { found = subst (AreExports c.list_export.new.listing.found) (sym more) (c.in_ok-list_export.ensures (filter_map typed (take k items)) c.loop-export.invariant.found) }
