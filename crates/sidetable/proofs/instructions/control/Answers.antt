use Rattle.std.proofs.Common.{◌∙◌, ap}
use Rattle.sidetable.specs.Flat.{Br, BrIf}
use Rattle.sidetable.specs.SideTables.{entry_of_number}
use Rattle.sidetable.proofs.LabelNumbers.{entry-at-number, label-there}
use Rattle.sidetable.proofs.instructions.control.Goals as goal

pub returns-in-Br-clause-packs : goal.returns-in-Br-clause-packs
returns-in-Br-clause-packs c = λ final has. record {
  same = rw c.in-Br.is (ap Br (ap (entry_of_number final) c.label_at-label.ensures ∙ entry-at-number final c.args.outermost c.args.levels.now c.in-Br.index));
  within = label-there c.args.tables.now final c.args.outermost c.args.levels.now c.in-Br.index c.label_at-label.result has.within c.requires c.label_at-label.ensures;
}

pub returns-in-BrIf-clause-packs : goal.returns-in-BrIf-clause-packs
returns-in-BrIf-clause-packs c = λ final has. record {
  same = rw c.in-BrIf.is (ap BrIf (ap (entry_of_number final) c.label_at.ensures ∙ entry-at-number final c.args.outermost c.args.levels.now c.in-BrIf.index));
  within = label-there c.args.tables.now final c.args.outermost c.args.levels.now c.in-BrIf.index c.label_at.result has.within c.requires c.label_at.ensures;
}
