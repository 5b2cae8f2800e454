use Rattle.leb.proofs.PrefixFree.{signed-prefix_free, unsigned-prefix_free}
use Rattle.leb.proofs.laws.spellings_are_prefix_free.Goals as goal

pub returns-clause-unsigned : goal.returns-clause-unsigned
returns-clause-unsigned c = unsigned-prefix_free

pub returns-clause-signed : goal.returns-clause-signed
returns-clause-signed c = signed-prefix_free
