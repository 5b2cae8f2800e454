use Rattle.std.proofs.Common.{take}
use Rattle.subcommands.specs.Arguments.{AreArguments}
use Rattle.subcommands.proofs.args.read_args.Given as goal

abbrev pub invariant-loop-i : goal.invariant-loop-i
invariant-loop-i l = AreArguments (take l.i l.words) l.values.items
