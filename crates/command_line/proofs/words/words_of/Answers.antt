use Rattle.std.proofs.Common.{◌∙◌, ap, map, sym, []}
use Rattle.std.specs.Prelude.{option_map, unwrap_or}
use Rattle.clap.specs.Words.{found_of}
use Rattle.command_line.proofs.Matching.{words-found}
use Rattle.command_line.proofs.words.words_of.Goals as goal

pub returns-in_ok-from_slice-in-Some : goal.returns-in_ok-from_slice-in-Some
returns-in_ok-from_slice-in-Some c =
    let found = words-found (found_of c.args.matches.now) c.args.name.now c.get_strs.result c.get_strs.ensures ∙ ap (option_map (λ s. map (λ v. v.now) s.now)) c.in-Some.is in
    ap (λ words. unwrap_or words []) found ∙ ap (map (λ v. v.now)) (sym c.in_ok-from_slice-in-Some.ensures.items)

pub returns-in-None : goal.returns-in-None
returns-in-None c =
    let found = words-found (found_of c.args.matches.now) c.args.name.now c.get_strs.result c.get_strs.ensures ∙ ap (option_map (λ s. map (λ v. v.now) s.now)) c.in-None.is in
    ap (λ words. unwrap_or words []) found ∙ ap (map (λ v. v.now)) (sym c.new.ensures.items)
