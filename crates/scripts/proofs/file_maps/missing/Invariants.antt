use Rattle.scripts.specs.FileMaps.{files_kept}
use Rattle.scripts.specs.Views.{command_view}
use Rattle.scripts.proofs.lemmas.Lists.{NoneMissing}
use Rattle.scripts.proofs.file_maps.missing.Given as goal

abbrev pub invariant-loop-k : goal.invariant-loop-k
invariant-loop-k l = NoneMissing command_view l.commands (files_kept l.files) l.k
