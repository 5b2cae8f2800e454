use Rattle.std.proofs.Common.{rules}
use Rattle.std.proofs.lemmas.Nat.{le_bytes_8}
use Rattle.messages.specs.Numbers.{number_bytes}
use Rattle.messages.proofs.numbers.read_number.Goals as goal

pub returns : goal.returns
unfolding number_bytes
returns c = le_bytes_8 c.args.bytes.now _ (search rules) (search rules) c.from_le_bytes.ensures
