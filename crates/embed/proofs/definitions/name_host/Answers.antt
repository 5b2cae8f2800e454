use Rattle.std.proofs.Common.{arith, rules}
use Rattle.std.proofs.lemmas.Grind.{common_steps}
use Rattle.embed.proofs.definitions.name_host.Goals as goal

pub returns-clause-named : goal.returns-clause-named
returns-clause-named g c = record {
  name = grind (arith, common_steps);
  faultless = grind (arith, common_steps);
  function = grind (arith, common_steps);
  counted = search rules;
}
