use Rattle.std.proofs.Common.{refl, arith}
use Rattle.meaning.specs.execution.Runs.{end, step, goes, opens, no_fuel, trapped, values_left}
use Rattle.meaning.proofs.execution.memories_change_in_runs.Goals as goal

pub returns-clause-fill : goal.returns-clause-fill
returns-clause-fill c = step (opens refl (omega arith) refl refl (omega arith))
    (step (goes refl (omega arith) refl refl)
    (step (goes refl (omega arith) refl refl)
    (step (goes refl (omega arith) refl refl)
    (step (goes refl (omega arith) refl refl)
    (step (goes refl (omega arith) refl refl) (step (goes refl (omega arith) refl refl) (end (values_left refl refl refl))))))))

pub returns-clause-no_fuel : goal.returns-clause-no_fuel
returns-clause-no_fuel c = step (opens refl (omega arith) refl refl (omega arith))
    (step (goes refl (omega arith) refl refl)
    (step (goes refl (omega arith) refl refl) (step (goes refl (omega arith) refl refl) (end (no_fuel (omega arith) refl refl)))))

pub returns-clause-global : goal.returns-clause-global
returns-clause-global c = step (opens refl (omega arith) refl refl (omega arith))
    (step (goes refl (omega arith) refl refl)
    (step (goes refl (omega arith) refl refl)
    (step (goes refl (omega arith) refl refl)
    (step (goes refl (omega arith) refl refl)
    (step (goes refl (omega arith) refl refl)
    (step (goes refl (omega arith) refl refl)
    (step (goes refl (omega arith) refl refl)
    (step (goes refl (omega arith) refl refl)
    (step (goes refl (omega arith) refl refl) (step (goes refl (omega arith) refl refl) (end (values_left refl refl refl))))))))))))

pub returns-clause-trap : goal.returns-clause-trap
returns-clause-trap c = step (opens refl (omega arith) refl refl (omega arith))
    (step (goes refl (omega arith) refl refl) (step (goes refl (omega arith) refl refl) (end (trapped refl (omega arith) refl refl))))
