use Rattle.std.proofs.Common.{◌∙◌, ap, arith, set}
use Rattle.core_types.specs.declared.outcome.Val.{Val}
use Rattle.core_types.specs.declared.types.ValType.TheVariants.{I32}
use Rattle.exec.proofs.Ending.{cell-there, cells-inside, next-read}
use Rattle.exec.proofs.invocation.read_cells.Goals as goal

pub bounds-cells-k : goal.bounds-cells-k
bounds-cells-k c = cells-inside c.args.types.now c.args.cells.now c.loop-k.k c.requires.fit (omega (arith, c.requires.room))

pub value_of-requires : goal.value_of-requires
value_of-requires c = cell-there c.args.types.now c.args.cells.now c.loop-k.k _ _ c.requires.fit (omega (arith, c.requires.room))

pub loop-k-preserved : goal.loop-k-preserved
loop-k-preserved c =
    ap (λ (v : Val). set c.loop-k.into c.loop-k.k v) c.value_of.ensures
    ∙ next-read c.args.types.now c.args.cells.now c.args.into.now c.loop-k.into c.loop-k.k I32 0 c.requires.fit c.requires.room (omega (arith, c.requires.room)) c.loop-k.invariant
