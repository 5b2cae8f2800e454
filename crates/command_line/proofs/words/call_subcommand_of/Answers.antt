use Rattle.command_line.proofs.words.call_subcommand_of.Goals as goal

pub returns : goal.returns
returns c = record {
  file = c.in_ok-word_of.ensures;
  export = c.in_ok-word_of-2.ensures;
  args = c.in_ok-words_of.ensures;
  fuel = c.in_ok-fuel_in.ensures;
  depth = c.in_ok-depth_in.ensures;
}
