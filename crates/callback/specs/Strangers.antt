-- What holds for a host function that an untrusted client executes.
use Rattle.std.specs.Prelude.{◌≡◌, ◌⊎◌, ◌+◌, ◌-◌, ◌^◌, ℕ, List, length}
use Rattle.meaning.specs.execution.Runs.{Answer, Results, HostTrap}
use Rattle.callback.specs.declared.callback.Callback.{Callback}

-- The client was asked once, and nothing else in the object changed.
abbrev pub AsksOnce : Callback → Callback → Type 0
AsksOnce callback callback' = callback' ≡ record callback {
  asking = record callback.asking { requests = callback.asking.requests + 1 };
}

-- No more requests can be counted, so the client is not asked. The call ends with the trap without an answer, and changes nothing.
abbrev pub AsksNoMore : Callback → List ℕ → (code : ℕ) → List ℕ → Callback → Type 0
AsksNoMore callback bytes code then callback' = (callback.asking.requests ≡ 2 ^ 64 - 1)
    × (code ≡ 0xFFFF_FFFF) × (then ≡ bytes) × (callback' ≡ callback)

-- The client is asked once, unless no more requests can be counted. It may answer anything of the right types, and write anything to the
-- bytes that it borrows. Their number stays the same.
abbrev pub AnswersAtWill : Callback → List ℕ → Answer → List ℕ → Callback → Type 0
AnswersAtWill callback bytes (Results values) then callback' =
    AsksOnce callback callback' × (length then ≡ length bytes)
AnswersAtWill callback bytes (HostTrap code) then callback' =
    (AsksOnce callback callback' × (length then ≡ length bytes))
    ⊎ AsksNoMore callback bytes code then callback'
