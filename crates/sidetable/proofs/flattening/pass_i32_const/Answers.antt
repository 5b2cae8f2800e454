use Rattle.std.proofs.lemmas.Result.{on_ok_weaker}
use Rattle.core_types.specs.declared.op.PlainOp.TheVariants.{I32Const}
use Rattle.sidetable.specs.Signatures.{signatures_of}
use Rattle.sidetable.proofs.Passing.{alone-passes}
use Rattle.sidetable.proofs.flattening.pass_i32_const.Goals as goal

pub returns : goal.returns
returns c =
    on_ok_weaker c.push_packed.result
    (alone-passes (signatures_of c.args.s.now) c.args.outermost c.args.f.now c.push_packed.new.f c.pack_i32_const.result.op (I32Const c.args.value) c.pack_i32_const.result.counts c.pack_i32_const.ensures.op c.pack_i32_const.ensures.counts)
    c.push_packed.ensures
