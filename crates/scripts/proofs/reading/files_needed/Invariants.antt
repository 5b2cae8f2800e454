use Rattle.std.proofs.Common.{◌≡◌, map, take, string_bytes}
use Rattle.meaning.specs.scripts.Commands.{filenames}
use Rattle.scripts.specs.Views.{command_view}
use Rattle.scripts.proofs.reading.files_needed.Given as goal

abbrev pub invariant-loop-command : goal.invariant-loop-command
invariant-loop-command l = map string_bytes l.names.items ≡ filenames (map command_view (take l.command-index l.commands))
