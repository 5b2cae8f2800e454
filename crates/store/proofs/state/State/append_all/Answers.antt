use Rattle.std.proofs.Common.{◌≡◌, ◌++◌, ◌+◌, ◌-◌, ◌≤◌, Global, Vec, ap, arith, length, refl, vec_capacity, vec_len}
use Rattle.std.proofs.lemmas.List.Elements.{All-append}
use Rattle.meaning.specs.execution.Store.{ObjectLists}
use Rattle.store.specs.State.{IsMemoryWithin, IsTableWithin}
use Rattle.store.proofs.state.State.append_all.Goals as goal

-- There is room for all that is added.
room : {T : Type 0} (list added : Vec T Global) → length added.items ≤ vec_capacity list - vec_len list → vec_len list + vec_len added ≤ vec_capacity list
room list added fits = omega arith

pub returns-clause-contents : goal.returns-clause-contents
returns-clause-contents c =
    let fits = rw (← c.self.view_is, ← c.objects.view_is) at c.requires.fits in
    let tables = rw (c.append.ensures.succeeds (room c.self.inside.tables c.objects.inside.tables fits.tables)) at c.append.ensures.items in
    let memories = rw (c.append-2.ensures.succeeds (room c.self.inside.memories c.objects.inside.memories fits.memories)) at c.append-2.ensures.items in
    let globals = rw (c.append-3.ensures.succeeds (room c.self.inside.globals c.objects.inside.globals fits.globals)) at c.append-3.ensures.items in
    let elements = rw (c.append-4.ensures.succeeds (room c.self.inside.elements c.objects.inside.elements fits.elements)) at c.append-4.ensures.items in
    let datas = rw (c.append-5.ensures.succeeds (room c.self.inside.datas c.objects.inside.datas fits.datas)) at c.append-5.ensures.items in
    rw (← c.self.view_is, ← c.objects.view_is, tables, memories, globals, elements, datas) refl

pub invariant_of-self : goal.invariant_of-self
invariant_of-self c =
    let contents = returns-clause-contents c in
    let within = rw (← c.self.view_is) at c.requires.within in
    let tables : c.append.new.self.items ≡ c.args.self.now.contents.tables ++ c.args.objects.tables = ap (λ (o : ObjectLists). o.tables) contents in
    let memories : c.append-2.new.self.items ≡ c.args.self.now.contents.memories ++ c.args.objects.memories = ap (λ (o : ObjectLists). o.memories) contents in
    rw (tables, memories, ← c.self.view_is)
    (record {
      few_entries = All-append (IsTableWithin c.self.inside.entries) _ _ c.self.invariant.few_entries within.few_entries;
      few_pages = All-append (IsMemoryWithin c.self.inside.pages) _ _ c.self.invariant.few_pages within.few_pages;
    })
