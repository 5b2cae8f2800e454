use Rattle.std.proofs.Common.{◌≡◌, arith, get_or, subst, sym}
use Rattle.std.proofs.lemmas.List.{take_all}
use Rattle.instantiate.specs.Offsets.{HaveRoom, data_offset}
use Rattle.instantiate.proofs.lemmas.Offsets.{room-next}
use Rattle.instantiate.proofs.offsets.longest_data_offset.Goals.{else-length-longest, then-length-longest}
use Rattle.instantiate.proofs.offsets.longest_data_offset.Goals as goal

pub loop-k-preserved : goal.loop-k-preserved
loop-k-preserved c =
    let same : data_offset (get_or c.args.datas.now c.loop-k.k c.index-datas-k.result) ≡ c.data_offset_length-length.result = sym c.data_offset_length-length.ensures in
    elim c.if-length-longest.branch [
      | then-length-longest w ↦ room-next data_offset c.args.datas.now c.loop-k.k c.loop-k.longest c.if-length-longest.longest c.index-datas-k.result
          c.loop-k-test.true c.loop-k.invariant (omega (arith, w.longest-is, w.if-length-longest.true)) (omega (arith, w.longest-is, same))
      | else-length-longest w ↦ room-next data_offset c.args.datas.now c.loop-k.k c.loop-k.longest c.if-length-longest.longest c.index-datas-k.result
          c.loop-k-test.true c.loop-k.invariant (omega (arith, w.longest-is)) (omega (arith, w.longest-is, w.if-length-longest.false, same))
    ]

pub returns : goal.returns
returns c = subst (HaveRoom data_offset c.loop-k.longest) (take_all c.loop-k.k c.args.datas.now c.loop-k-test.false) c.loop-k.invariant
