use Rattle.std.proofs.Common.{◌≡◌, ℕ, zero, suc, List, [], ◌∷◌, true, refl}
use Rattle.meaning.specs.execution.Runs.{Answer, Results, HostTrap}
use Rattle.isolation.specs.Rows.{is_trap}
use Rattle.isolation.proofs.rows.a_host_function_may_answer_in_one_way.Goals as goal

pub returns-clause-anything : goal.returns-clause-anything
returns-clause-anything c functions =
    let wrong : Results [] ≡ HostTrap 0 = (functions tt [] [] (Results []) (HostTrap 0) [] [] tt tt refl refl refl refl).0 in
    cc

-- There is only one such answer.
traps-alike : (a b : Answer) (bytes_a bytes_b : List ℕ) → is_trap a bytes_a ≡ true → is_trap b bytes_b ≡ true → (a ≡ b) × (bytes_a ≡ bytes_b)
traps-alike (Results vs) b bytes_a bytes_b is is' = absurd cc
traps-alike (HostTrap (suc n)) b bytes_a bytes_b is is' = absurd cc
traps-alike (HostTrap zero) b (byte ∷ bytes_a) bytes_b is is' = absurd cc
traps-alike (HostTrap zero) (Results vs) [] bytes_b is is' = absurd cc
traps-alike (HostTrap zero) (HostTrap (suc n)) [] bytes_b is is' = absurd cc
traps-alike (HostTrap zero) (HostTrap zero) [] (byte ∷ bytes_b) is is' = absurd cc
traps-alike (HostTrap zero) (HostTrap zero) [] [] is is' = (refl, refl)

pub returns-clause-trap : goal.returns-clause-trap
returns-clause-trap c host arguments bytes a b bytes_a bytes_b host_a host_b same_a same_b first second =
    let alike = traps-alike a b bytes_a bytes_b first second in
    (alike.0, alike.1, refl)
