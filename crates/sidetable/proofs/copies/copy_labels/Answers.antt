use Rattle.std.proofs.Common.{◌≡◌, ◌∙◌, ◌-◌, ap, arith, length, refl, sym, ℕ}
use Rattle.sidetable.specs.Completion.{copied}
use Rattle.sidetable.proofs.CopiedEntries.{length-copied, none-copied, range_of, target-before, written-is}
use Rattle.sidetable.proofs.copies.copy_labels.Goals as goal

pub index-requires-in-loop-index : goal.index-requires-in-loop-index
index-requires-in-loop-index c =
    let es = c.args.tables.now.entries.items in
    let count : ℕ = c.loop-index.index - c.args.range.first in
    let before = target-before es c.loop-index.tables.entries.items c.args.range c.loop-index.index c.loop-index.invariant.entries c.loop-index.auto.index c.loop-index-test.true c.requires
    c.index.result.now c.index.ensures in
    omega (
      arith,
      before,
      c.requires.within,
      ap length c.loop-index.invariant.entries,
      length-copied es es (range_of c.args.range count)
          (omega (arith, c.loop-index-test.true, c.requires.within, c.loop-index.auto.index)),
    )

pub loop-index-init : goal.loop-index-init
loop-index-init c =
    let es = c.args.tables.now.entries.items in
    let none : 0 ≡ c.args.range.first - c.args.range.first = omega arith in
    record {
      entries = sym (none-copied es c.args.range) ∙ ap (λ (n : ℕ). copied es es (range_of c.args.range n)) none;
      branch_ranges = refl;
      constants = refl;
      pairs = refl;
    }

pub loop-index-preserved : goal.loop-index-preserved
loop-index-preserved c =
    let i = c.loop-index.invariant in
    record {
      entries = written-is c.args.tables.now.entries.items c.loop-index.tables.entries.items c.args.range c.loop-index.index i.entries c.loop-index.auto.index c.loop-index-test.true c.requires
          c.index.result.now c.index-in-loop-index.result.now c.index.ensures c.index-in-loop-index.ensures;
      branch_ranges = i.branch_ranges;
      constants = i.constants;
      pairs = i.pairs;
    }

pub returns : goal.returns
returns c =
    let i = c.loop-index.invariant in
    let es = c.args.tables.now.entries.items in
    record {
      entries = i.entries ∙ ap (λ (n : ℕ). copied es es (range_of c.args.range n)) (omega (arith, c.loop-index-test.false, c.loop-index.auto.index-end, c.loop-index.auto.index));
      branch_ranges = i.branch_ranges;
      constants = i.constants;
      pairs = i.pairs;
    }
