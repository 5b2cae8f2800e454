use Rattle.std.proofs.Common.{◌∙◌, ◌+◌, ◌-◌, ◌/◌, ap, arith, option_map, sym, Less, Greater}
use Rattle.core_types.specs.declared.module.Export.{Export}
use Rattle.export_names.proofs.Halving.{compared, equal_is_alike, found_first, lies_before, lies_behind, none_there}
use Rattle.export_names.proofs.name_order.NameOrder.find.Goals as goal

pub loop-low-preserved-in-Less : goal.loop-low-preserved-in-Less
loop-low-preserved-in-Less c =
    let left = c.loop-low in
    let less = compared c.as_str.result.now _ c.args.name.now c.cmp.result Less c.cmp.ensures (c.as_str.ensures ∙ c.export_at-export.ensures.named) c.in-Less.is in
    lies_behind c.args.exports.now c.args.self.now c.args.name.now c.requires.order c.requires.differ left.low left.high
    (left.low + (left.high - left.low) / 2) left.invariant (omega (arith, c.loop-low-test.true)) less

pub loop-low-preserved : goal.loop-low-preserved
loop-low-preserved c =
    let left = c.loop-low in
    let greater = compared c.as_str.result.now _ c.args.name.now c.cmp.result Greater c.cmp.ensures (c.as_str.ensures ∙ c.export_at-export.ensures.named) c.in-Greater.is in
    lies_before c.args.exports.now c.args.self.now c.args.name.now c.requires.order c.requires.differ left.low left.high
    (left.low + (left.high - left.low) / 2) left.invariant (omega arith) (omega (arith, c.loop-low-test.true)) greater

pub returns-in-Equal : goal.returns-in-Equal
returns-in-Equal c =
    let export = c.export_at-export.result.now in
    let alike = equal_is_alike c.as_str.result.now export.name c.args.name.now c.cmp.result c.cmp.ensures c.as_str.ensures c.in-Equal.is in
    sym (ap (option_map (λ (e : Export). e.desc)) (found_first c.args.name.now c.args.exports.now export c.requires.differ c.export_at-export.ensures.contained alike))

pub returns : goal.returns
returns c = sym (none_there c.args.exports.now c.args.self.now c.args.name.now c.requires.order c.requires.differ c.loop-low.low c.loop-low.high c.loop-low.invariant c.loop-low-test.false)
