use Rattle.std.proofs.Common.{◌≡◌, subst}
use Rattle.core_types.specs.declared.op.NumericOp.{NumericOp}
use Rattle.core_types.specs.declared.op.PlainOp.TheVariants as plain
use Rattle.sidetable.specs.Packing.{PacksAlone}
use Rattle.sidetable.specs.declared.operations.PackedOp.{PackedOp}
use Rattle.sidetable.proofs.packing.numeric.Goals as goal

-- What packs an instruction packs any equal one.
packs-same : (p : PackedOp) (op written : NumericOp) → op ≡ written → PacksAlone p (plain.Numeric op) → PacksAlone p (plain.Numeric written)
packs-same p op written is packs = subst (λ (o : NumericOp). PacksAlone p (plain.Numeric o)) is packs

pub returns-in-Eqz : goal.returns-in-Eqz
returns-in-Eqz c = rw c.in-Eqz.is (packs-same _ _ _ c.eqz.ensures c.on_one.ensures)

pub returns-in-Compare : goal.returns-in-Compare
returns-in-Compare c = rw c.in-Compare.is c.compare.ensures

pub returns-in-Unary : goal.returns-in-Unary
returns-in-Unary c = rw c.in-Unary.is (packs-same _ _ _ c.unary.ensures c.on_one-in-Unary.ensures)

pub returns-in-Binary : goal.returns-in-Binary
returns-in-Binary c = rw c.in-Binary.is c.binary.ensures

pub returns-in-Convert : goal.returns-in-Convert
returns-in-Convert c = rw c.in-Convert.is (packs-same _ _ _ c.conversion.ensures c.on_one-in-Convert.ensures)
