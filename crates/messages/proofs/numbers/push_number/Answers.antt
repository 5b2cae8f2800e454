use Rattle.std.proofs.Common.{rules}
use Rattle.messages.specs.Numbers.{number_bytes}
use Rattle.messages.proofs.numbers.push_number.Goals as goal

pub returns : goal.returns
unfolding number_bytes
returns c = search rules
