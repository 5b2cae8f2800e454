use Rattle.std.proofs.Common.{◌∙◌, ◌++◌, ◌∷◌, [], ap, arith, List, sym, take}
use Rattle.core_types.specs.declared.types.ValType.TheVariants.{I32}
use Rattle.cells.specs.Cells.{values_of}
use Rattle.core_types.specs.declared.outcome.Val.{Val}
use Rattle.cells.proofs.Reading.{as-many, cell-at, values-next}
use Rattle.cells.proofs.cells.values_of.Goals as goal

pub bounds-cells-k : goal.bounds-cells-k
bounds-cells-k c = let same = as-many c.args.types.now c.args.cells.now c.requires in omega (arith, same)

pub value_of-requires : goal.value_of-requires
value_of-requires c = cell-at c.args.types.now c.args.cells.now c.loop-k.k _ _ c.requires (omega arith)

pub loop-k-preserved : goal.loop-k-preserved
loop-k-preserved c =
    let same = as-many c.args.types.now c.args.cells.now c.requires in
    c.in_ok-push.ensures.items ∙ ap (λ (vs : List Val). vs ++ (c.value_of.result ∷ [])) c.loop-k.invariant
    ∙ ap (λ (v : Val). values_of (take c.loop-k.k c.args.types.now) c.args.cells.now ++ (v ∷ [])) c.value_of.ensures
    ∙ sym (values-next c.args.types.now c.args.cells.now c.loop-k.k I32 0 same (omega arith))
