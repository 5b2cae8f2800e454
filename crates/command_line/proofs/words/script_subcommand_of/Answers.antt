use Rattle.command_line.proofs.words.script_subcommand_of.Goals as goal

pub returns : goal.returns
returns c = record {
  file = c.in_ok-word_of.ensures;
  fuel = c.in_ok-fuel_in.ensures;
  depth = c.in_ok-depth_in.ensures;
}
