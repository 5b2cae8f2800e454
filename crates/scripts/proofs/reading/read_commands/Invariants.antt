use Rattle.std.proofs.Common.{map}
use Rattle.serde_json.specs.View.{view}
use Rattle.scripts.specs.Views.{command_view}
use Rattle.scripts.proofs.lemmas.Lists.{CommandsSoFar}
use Rattle.scripts.proofs.reading.read_commands.Given as goal

abbrev pub invariant-loop-k : goal.invariant-loop-k
invariant-loop-k l = CommandsSoFar view l.items l.k (map command_view l.commands.items)
