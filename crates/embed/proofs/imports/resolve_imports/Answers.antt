use Rattle.std.proofs.Common.{◌∙◌, ap, get_or, refl, sym, take}
use Rattle.std.proofs.lemmas.List.{take_more}
use Rattle.std.proofs.lemmas.Option.{slice_get-get_or}
use Rattle.std.specs.Prelude.{Some}
use Rattle.core_types.specs.declared.module.Import.{Import}
use Rattle.meaning.specs.embedding.Names.{resolve_name}
use Rattle.store.specs.Contents.{store_of}
use Rattle.meaning.proofs.lemmas.Lists.{map_all-end, map_all-next, map_all-none}
use Rattle.embed.proofs.lemmas.Causes.{map_all-append}
use Rattle.embed.specs.Causes.{missing}
use Rattle.embed.proofs.imports.resolve_imports.Goals as goal

pub returns-in-None-clause-refused : goal.returns-in-None-clause-refused
returns-in-None-clause-refused c =
    let resolve = λ (i : Import). resolve_name (store_of c.args.store.now) c.args.names.now i.module_name i.name in
    let here = rw (c.as_str.ensures, c.as_str-in-loop-k.ensures) at c.in-None.ensures in
    missing c.loop-k.k (record {
      wanted = c.index-imports-k.result;
      wanted_is = slice_get-get_or _ _ _ c.loop-k-test.true ∙ ap Some (sym c.index-imports-k.is);
      unknown = sym here;
      found = c.loop-k.externs.items;
      before = c.loop-k.invariant.before;
    })
    (map_all-none resolve c.args.imports.now c.loop-k.k c.loop-k.externs.items c.index-imports-k.result c.loop-k-test.true c.loop-k.invariant.so_far
    (ap resolve (sym c.index-imports-k.is) ∙ sym here)) refl

pub loop-k-preserved : goal.loop-k-preserved
loop-k-preserved c =
    let resolve = λ (i : Import). resolve_name (store_of c.args.store.now) c.args.names.now i.module_name i.name in
    let here = rw (c.as_str.ensures, c.as_str-in-loop-k.ensures) at c.in-Some.ensures in
    let is = ap resolve (sym c.index-imports-k.is) ∙ sym here in
    rw c.in_ok-push-in-Some.ensures.items (record {
      so_far = map_all-next resolve c.args.imports.now c.loop-k.k c.loop-k.externs.items c.index-imports-k.result c.in-Some.found c.loop-k-test.true c.loop-k.invariant.so_far is;
      before = rw (take_more c.args.imports.now c.loop-k.k c.index-imports-k.result c.loop-k-test.true)
          (map_all-append resolve (get_or c.args.imports.now c.loop-k.k c.index-imports-k.result) c.in-Some.found is
          (take c.loop-k.k c.args.imports.now) c.loop-k.externs.items c.loop-k.invariant.before);
    })

pub returns-clause-found : goal.returns-clause-found
returns-clause-found c =
    let resolve = λ (i : Import). resolve_name (store_of c.args.store.now) c.args.names.now i.module_name i.name in
    map_all-end resolve c.args.imports.now c.loop-k.k c.loop-k.externs.items c.loop-k-test.false c.loop-k.invariant.so_far
