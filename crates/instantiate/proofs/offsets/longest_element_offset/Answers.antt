use Rattle.std.proofs.Common.{◌≡◌, arith, get_or, subst, sym}
use Rattle.std.proofs.lemmas.List.{take_all}
use Rattle.instantiate.specs.Offsets.{HaveRoom, element_offset}
use Rattle.instantiate.proofs.lemmas.Offsets.{room-next}
use Rattle.instantiate.proofs.offsets.longest_element_offset.Goals.{else-length-longest, then-length-longest}
use Rattle.instantiate.proofs.offsets.longest_element_offset.Goals as goal

pub loop-k-preserved : goal.loop-k-preserved
loop-k-preserved c =
    let same : element_offset (get_or c.args.elements.now c.loop-k.k c.index-elements-k.result) ≡ c.element_offset_length-length.result = sym c.element_offset_length-length.ensures in
    elim c.if-length-longest.branch [
      | then-length-longest w ↦ room-next element_offset c.args.elements.now c.loop-k.k c.loop-k.longest c.if-length-longest.longest
          c.index-elements-k.result c.loop-k-test.true c.loop-k.invariant (omega (arith, w.longest-is, w.if-length-longest.true))
          (omega (arith, w.longest-is, same))
      | else-length-longest w ↦ room-next element_offset c.args.elements.now c.loop-k.k c.loop-k.longest c.if-length-longest.longest
          c.index-elements-k.result c.loop-k-test.true c.loop-k.invariant (omega (arith, w.longest-is))
          (omega (arith, w.longest-is, w.if-length-longest.false, same))
    ]

pub returns : goal.returns
returns c = subst (HaveRoom element_offset c.loop-k.longest) (take_all c.loop-k.k c.args.elements.now c.loop-k-test.false) c.loop-k.invariant
