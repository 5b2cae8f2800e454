use Rattle.std.proofs.Common.{◌∷◌, [], ◌∙◌, ap, get_or, length, subst, sym, take, ◌<◌}
use Rattle.std.specs.Prelude.{filter_map}
use Rattle.std.proofs.lemmas.List.Elements.{filter_map-append}
use Rattle.std.proofs.lemmas.List.{take_more}
use Rattle.interface.specs.Listings.{AreImports, typed_import}
use Rattle.interface.proofs.modules.imports_of.Goals as goal

pub loop-import-preserved : goal.loop-import-preserved
loop-import-preserved c =
    let typed = typed_import c.args.decoded.now in
    let items = c.as_slice-import-items.result.now in
    let k = c.loop-import.import-index in
    let inside : k < length items = c.loop-import-test.true in
    let next = ap (filter_map typed) (take_more items k c.import-item.result inside) ∙ filter_map-append typed (take k items) (get_or items k c.import-item.result ∷ []) in
    let more = rw (← c.import-item.is) at next in
    record { found = subst (AreImports c.list_import.new.listing.found) (sym more) (c.in_ok-list_import.ensures (filter_map typed (take k items)) c.loop-import.invariant.found) }
