use Rattle.std.proofs.Common.{◌∙◌, ◌++◌, ◌∷◌, [], ap, arith, ℕ}
use Rattle.sidetable.specs.Completion.{copy_of}
use Rattle.sidetable.specs.Labels.{number_at}
use Rattle.sidetable.proofs.LabelNumbers.{one-pushed}
use Rattle.sidetable.proofs.labels.push_copies.Goals as goal

pub loop-index-preserved : goal.loop-index-preserved
loop-index-preserved c =
    let i = c.loop-index.invariant in
    let pushed = c.in_ok-push_entry.ensures.entries in
    record {
      entries = one-pushed (λ (index : ℕ). copy_of (number_at c.args.outermost c.args.levels.now index)) c.args.tables.now.entries.items c.loop-index.tables.entries.items
          c.push_entry.new.self.entries.items c.args.indices.now c.loop-index.index-index (omega arith)
          i.entries (pushed.entries ∙ ap (λ (n : ℕ). c.loop-index.tables.entries.items ++ (copy_of n ∷ [])) c.label_at-label.ensures);
      branch_ranges = pushed.branch_ranges ∙ i.branch_ranges;
      constants = pushed.constants ∙ i.constants;
      pairs = pushed.pairs ∙ i.pairs;
    }
