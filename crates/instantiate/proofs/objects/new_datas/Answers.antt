use Rattle.instantiate.proofs.lemmas.Objects.{datas-next}
use Rattle.instantiate.proofs.objects.new_datas.Goals as goal

pub loop-k-preserved : goal.loop-k-preserved
loop-k-preserved c =
    let inside = rw (c.len-k-end.ensures, c.module.ensures.same, c.as_ref.ensures) at c.loop-k-test.true in
    datas-next c.args.loaded.now.value.source c.loop-k.k c.loop-k.datas.items c.push.new.self.items c.new.result inside c.loop-k.invariant
    (rw c.in_ok-clone.ensures.cases at c.new.ensures) c.in_ok-push.ensures.items
