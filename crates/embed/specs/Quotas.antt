-- What a command counts of an embedding's quota.
use Rattle.std.specs.Prelude.{◌≡◌}
use Rattle.meaning.specs.embedding.Commands.{Reply, Refused}
use Rattle.quota.specs.Counting.{Counted}

-- A refused command counts nothing. Any other leaves how many bytes may be held.
abbrev pub CountsFor : Reply → (old new : Counted) → Type 0
CountsFor (Refused refusal) old new = new ≡ old
CountsFor reply old new = new.most ≡ old.most
