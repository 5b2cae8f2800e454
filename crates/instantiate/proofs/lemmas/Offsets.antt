-- Room for the operands of offsets.
use Rattle.std.proofs.Common.{ℕ, ◌+◌, ◌<◌, ◌≤◌, List, length, get_or, take, arith}
use Rattle.std.proofs.lemmas.List.Elements.{All-more, All-weaker}
use Rattle.instantiate.specs.Offsets.{HaveRoom}

-- If there is room for the segments so far and for the next one, there is room for both.
pub room-next : {A : Type 0} (offset : A → ℕ) (segments : List A) (k room more : ℕ) (d : A) → k < length segments
    → HaveRoom offset room (take k segments) → room ≤ more → offset (get_or segments k d) ≤ more → HaveRoom offset more (take (k + 1) segments)
room-next offset segments k room more d inside so_far larger next =
    All-more (λ s. offset s ≤ more) segments k d inside (All-weaker (λ s. offset s ≤ room) (λ s. offset s ≤ more) (λ s fits. omega (arith, fits, larger)) (take k segments) so_far) next
