use Rattle.std.proofs.Common.{rules}
use Rattle.embed.proofs.definitions.define_host.Goals as goal

pub returns-clause-defined : goal.returns-clause-defined
returns-clause-defined g c = record {
  named = search rules;
  object = search rules;
}
