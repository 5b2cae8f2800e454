use Rattle.std.proofs.Common.{◌≡◌}
use Rattle.std.specs.List.{All}
use Rattle.scripts.specs.Runs.{files_view}
use Rattle.subcommands.specs.Files.{IsNamedFile}
use Rattle.subcommands.proofs.script_files.read_all.Given as goal

abbrev pub invariant-loop-name : goal.invariant-loop-name
invariant-loop-name g l = record {
  kept : g.F.Files.contents l.files ≡ g.F.Files.contents l.initial.files;
  read : All (IsNamedFile (g.F.Files.contents l.initial.files) l.path) (files_view l.read.items);
}
