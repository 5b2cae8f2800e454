use Rattle.std.proofs.Common.{◌∷◌, [], ◌∙◌, ap, get_or, length, subst, sym, take, ◌<◌}
use Rattle.std.specs.Prelude.{Some, filter_map}
use Rattle.std.proofs.lemmas.List.Elements.{filter_map-append}
use Rattle.std.proofs.lemmas.List.{take_more}
use Rattle.meaning.specs.embedding.Machine.{named_type}
use Rattle.meaning.specs.execution.Store.{instance_of}
use Rattle.store.specs.Contents.{store_of}
use Rattle.interface.specs.Listings.{AreExports}
use Rattle.embed.proofs.embedding.Embedding.exports.Goals as goal

pub loop-export-preserved : goal.loop-export-preserved
loop-export-preserved g c =
    let typed = named_type (store_of c.args.self.now.store) (instance_of (store_of c.args.self.now.store) (Some c.in-Some.address)) in
    let items = c.exports-export-items.result.now in
    let k = c.loop-export.export-index in
    let inside : k < length items = c.loop-export-test.true in
    let next = ap (filter_map typed) (take_more items k c.export-item.result inside) ∙ filter_map-append typed (take k items) (get_or items k c.export-item.result ∷ []) in
    let more = rw (← c.export-item.is) at next in
    record { found = subst (AreExports c.list_export.new.listing.found) (sym more) (c.in_ok-list_export.ensures (filter_map typed (take k items)) c.loop-export.invariant.found) }
