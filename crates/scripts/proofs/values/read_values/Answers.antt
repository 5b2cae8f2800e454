use Rattle.std.proofs.Common.{◌∙◌, ap, sym}
use Rattle.serde_json.specs.View.{view}
use Rattle.serde_json.specs.declared.value.Value.{Value}
use Rattle.meaning.proofs.lemmas.Lists.{map_all-end, map_all-next, map_all-none}
use Rattle.scripts.specs.Reading.{value_of}
use Rattle.scripts.proofs.lemmas.Lists.{values_in-found}
use Rattle.scripts.proofs.values.read_values.Goals as goal

pub returns-in-None : goal.returns-in-None
returns-in-None c =
    let read = λ (v : Value). value_of (view v) in
    values_in-found view c.args.key.now (view c.args.object.now) c.in-Some.items.now _ c.in-Some.ensures
    (map_all-none read c.in-Some.items.now c.loop-k.k c.loop-k.values.items c.index-items-k.result c.loop-k-test.true c.loop-k.invariant (ap read (sym c.index-items-k.is) ∙ sym c.in-None.ensures))

pub loop-k-preserved : goal.loop-k-preserved
loop-k-preserved c =
    let read = λ (v : Value). value_of (view v) in
    rw c.in_ok-push-in-Some-value.ensures.items
    (map_all-next read c.in-Some.items.now c.loop-k.k c.loop-k.values.items c.index-items-k.result c.in-Some-value.found c.loop-k-test.true
    c.loop-k.invariant (ap read (sym c.index-items-k.is) ∙ sym c.in-Some-value.ensures))

pub returns : goal.returns
returns c =
    let read = λ (v : Value). value_of (view v) in
    values_in-found view c.args.key.now (view c.args.object.now) c.in-Some.items.now _ c.in-Some.ensures
    (map_all-end read c.in-Some.items.now c.loop-k.k c.loop-k.values.items c.loop-k-test.false c.loop-k.invariant)
