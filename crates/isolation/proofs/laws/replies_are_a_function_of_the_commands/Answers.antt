use Rattle.isolation.proofs.Determinism.{all-agree}
use Rattle.isolation.specs.Hosts.{AnswersBy}
use Rattle.isolation.proofs.laws.replies_are_a_function_of_the_commands.Goals as goal

pub returns : goal.returns
returns g c hosts functions = all-agree hosts.type (AnswersBy hosts) functions c.bytes_spell_one_module.ensures
