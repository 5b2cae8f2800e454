use Rattle.std.proofs.Common.{codes, refl, rules}
use Rattle.clap.specs.Words.{found_of, rows_of}
use Rattle.command_line.proofs.Matching.{entered}
use Rattle.command_line.proofs.words.subcommand_in.Goals as goal

pub returns-in-Some : goal.returns-in-Some
returns-in-Some c =
    let met = entered c.args.matches.now (codes "script") (rows_of (found_of c.in-Some.found.now))
    (c.subcommand_matches.ensures.found.0 (search rules)) (rw c.in-Some.is at c.subcommand_matches.ensures.rows) in
    rw met (refl, c.in_ok-script_subcommand_of.ensures)
