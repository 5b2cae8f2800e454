use Rattle.export_names.proofs.Numbering.{indices_more, names_more}
use Rattle.export_names.proofs.name_order.numbered.Goals as goal

pub loop-index-preserved : goal.loop-index-preserved
loop-index-preserved c =
    let here = c.loop-index in
    let pushed = c.in_ok-push.ensures.items in
    record {
      indices = indices_more c.args.exports.now here.found.items c.push.new.self.items here.index c.as_str.result pushed here.invariant.indices;
      named = names_more c.args.exports.now here.found.items c.push.new.self.items here.index c.as_str.result pushed c.index-exports-index.result
          c.loop-index-test.true c.as_str.ensures here.invariant.named;
    }
