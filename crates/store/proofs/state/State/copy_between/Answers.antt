use Rattle.std.proofs.Common.{◌≡◌, List, refl, ◌∙◌}
use Rattle.std.proofs.lemmas.List.{get_or-set_other, get_or_default, get_or_read_under, set-set}
use Rattle.meaning.specs.execution.Tables.{TableInstance}
use Rattle.store.specs.State.{no_table, table_of}
use Rattle.store.proofs.state.State.copy_between.Goals as goal

pub returns : goal.returns
returns c =
    let tables : List TableInstance = c.self.inside.tables.items in
    let there = rw (← c.self.view_is) at c.requires.there in
    let source = rw (← c.self.view_is) at c.requires.source in
    let taken : c.replace-table.result
    ≡ table_of c.args.self.now c.args.into = c.replace-table.ensures.value ∙ rw (← c.self.view_is)
    (get_or_read_under tables c.args.into _ _ no_table c.index_mut.ensures.value there refl) in
    let beside : c.index.result.now
    ≡ table_of c.args.self.now c.args.source = c.index.ensures ∙ get_or-set_other tables c.args.into c.args.source c.replace-table.new.dest
    c.index.result.now c.requires.apart ∙ rw (← c.self.view_is) (get_or_default tables c.args.source c.index.result.now no_table source) in
    rw (set-set tables c.args.into c.replace-table.new.dest c.copy_from.new.self, c.copy_from.ensures, c.entries.ensures.same, taken, beside, ← c.self.view_is) refl
