use Rattle.std.proofs.Common.{◌∙◌, ap, arith, set, ℕ}
use Rattle.cells.proofs.Reading.{write-next}
use Rattle.cells.proofs.cells.write_cells.Goals as goal

pub loop-k-preserved : goal.loop-k-preserved
loop-k-preserved c =
    ap (λ (n : ℕ). set c.loop-k.into c.loop-k.k n) c.cell_of.ensures
    ∙ write-next c.args.from.now c.args.into.now c.loop-k.into c.loop-k.k _ (omega arith) (omega (arith, c.requires)) c.loop-k.invariant
