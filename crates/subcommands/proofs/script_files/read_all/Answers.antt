use Rattle.std.proofs.Common.{◌∙◌}
use Rattle.subcommands.proofs.script_files.read_all.Goals as goal

pub loop-name-preserved : goal.loop-name-preserved
loop-name-preserved g c = record {
  kept = c.in_ok-add_beside.ensures.kept ∙ c.loop-name.invariant.kept;
  read = (rw c.loop-name.invariant.kept at c.in_ok-add_beside.ensures.read) c.loop-name.invariant.read;
}
