-- What a command counts of a quota.
use Rattle.std.proofs.Common.{◌≡◌, ap}
use Rattle.meaning.specs.embedding.Commands.{Reply, Loaded, Linked, Done, Ended, Refused}
use Rattle.quota.specs.Counting.{Counted}
use Rattle.embed.specs.Quotas.{CountsFor}

-- How many bytes may be held stays, whatever the reply.
pub counts-most : (reply : Reply) (old new : Counted) → CountsFor reply old new → new.most ≡ old.most
counts-most (Loaded number) old new same = same
counts-most (Linked number) old new same = same
counts-most Done old new same = same
counts-most (Ended ending) old new same = same
counts-most (Refused refusal) old new same = ap (λ (quota : Counted). quota.most) same
