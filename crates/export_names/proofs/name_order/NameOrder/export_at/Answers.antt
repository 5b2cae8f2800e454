use Rattle.std.proofs.Common.{◌∙◌, ◌<◌, get_or, length, rules, sym}
use Rattle.export_names.proofs.Sorting.{index_within, name_at}
use Rattle.export_names.proofs.name_order.NameOrder.export_at.Goals as goal

pub bounds-exports-index : goal.bounds-exports-index
bounds-exports-index c =
    rw (c.as_slice.ensures ∙ c.self.view_is) (index_within c.args.exports.now c.args.self.now c.requires.order c.args.place 0 c.requires.within)

pub offset_bounds-exports-index : goal.offset_bounds-exports-index
offset_bounds-exports-index c =
    let inside : get_or c.as_slice.result.now c.args.place 0 < length c.args.exports.now =
    rw (c.as_slice.ensures ∙ c.self.view_is) (index_within c.args.exports.now c.args.self.now c.requires.order c.args.place 0 c.requires.within) in
    search (rules, inside)

pub returns-clause-named : goal.returns-clause-named
returns-clause-named c =
    name_at c.args.exports.now c.args.self.now c.requires.order c.args.place c.index-exports-index.result c.requires.within
    (rw (c.as_slice.ensures ∙ c.self.view_is) at c.index-exports-index.is)

pub returns-clause-contained : goal.returns-clause-contained
returns-clause-contained c =
    let index = get_or c.as_slice.result.now c.args.place 0 in
    let inside : index < length c.args.exports.now =
    rw (c.as_slice.ensures ∙ c.self.view_is) (index_within c.args.exports.now c.args.self.now c.requires.order c.args.place 0 c.requires.within) in
    (index, inside, sym c.index-exports-index.is)
