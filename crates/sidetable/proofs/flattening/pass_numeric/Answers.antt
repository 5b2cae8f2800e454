use Rattle.std.proofs.lemmas.Result.{on_ok_weaker}
use Rattle.core_types.specs.declared.op.PlainOp.TheVariants.{Numeric}
use Rattle.sidetable.specs.Signatures.{signatures_of}
use Rattle.sidetable.proofs.Passing.{alone-passes}
use Rattle.sidetable.proofs.flattening.pass_numeric.Goals as goal

pub returns : goal.returns
returns c =
    on_ok_weaker c.push_packed.result
    (alone-passes (signatures_of c.args.s.now) c.args.outermost c.args.f.now c.push_packed.new.f c.pack_numeric.result.op (Numeric c.args.op) c.pack_numeric.result.counts c.pack_numeric.ensures.op c.pack_numeric.ensures.counts)
    c.push_packed.ensures
