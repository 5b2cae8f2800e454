use Rattle.std.proofs.Common.{◌∙◌, ap, refl}
use Rattle.std.specs.Prelude.{option_map}
use Rattle.clap.specs.Words.{found_of}
use Rattle.command_line.proofs.Matching.{word-found}
use Rattle.command_line.proofs.words.option_of.Goals as goal

pub returns-in-None : goal.returns-in-None
returns-in-None c =
    rw (word-found (found_of c.args.matches.now) c.args.name.now c.get_str.result c.get_str.ensures ∙ ap (option_map (λ s. s.now)) c.in-None.is) refl

pub returns-in-Some-number : goal.returns-in-Some-number
returns-in-Some-number c =
    let read = rw c.in-Some-number.is at c.number.ensures in
    rw (word-found (found_of c.args.matches.now) c.args.name.now c.get_str.result c.get_str.ensures ∙ ap (option_map (λ s. s.now)) c.in-Some.is)
    (read.0.0, read.1)
