-- Side tables to which no range is added.
use Rattle.std.proofs.Common.{◌≡◌, ◌∙◌, [], refl, sym}
use Rattle.std.proofs.lemmas.List.{append-nil}
use Rattle.std.proofs.lemmas.List.Elements.{All-nil}
use Rattle.sidetable.specs.Completion.{Adds, IsCopying}
use Rattle.sidetable.specs.SideTables.{Continues, SideTables}
use Rattle.sidetable.proofs.Growth.{continues-same}

pub adds-no-range : (old new : SideTables) → Continues old.entries.items new.entries.items → Continues old.constants.items new.constants.items → Continues old.pairs.items new.pairs.items
    → new.branch_ranges.items ≡ old.branch_ranges.items → Adds old new
adds-no-range old new entries constants pairs same = record {
  grows = record {
    entries = entries;
    branch_ranges = ([], same ∙ sym (append-nil old.branch_ranges.items));
    constants = constants;
    pairs = pairs;
  };
  copies = record { in_order = tt {0}; copying = All-nil (IsCopying new.entries.items) };
}

-- Where nothing changes, nothing is added.
pub adds_nothing : (t : SideTables) → Adds t t
adds_nothing t = adds-no-range t t (continues-same t.entries.items) (continues-same t.constants.items) (continues-same t.pairs.items) refl
