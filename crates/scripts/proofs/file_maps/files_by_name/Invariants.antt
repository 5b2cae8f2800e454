use Rattle.std.proofs.Common.{◌≡◌, take}
use Rattle.meaning.specs.scripts.Commands.{files_in}
use Rattle.scripts.specs.FileMaps.{files_kept}
use Rattle.scripts.specs.Runs.{files_view}
use Rattle.scripts.proofs.file_maps.files_by_name.Given as goal

abbrev pub invariant-loop-k : goal.invariant-loop-k
invariant-loop-k l = files_kept l.kept ≡ files_in (files_view (take l.k l.files))
