use Rattle.std.proofs.Common.{refl, arith}
use Rattle.meaning.specs.execution.Runs.{end, step, goes, grows, opens, calls, trapped, no_fuel, values_left}
use Rattle.meaning.proofs.execution.tail_calls_replace_their_frame.Goals as goal

pub returns-clause-down : goal.returns-clause-down
returns-clause-down c =
    step (opens refl (omega arith) refl refl (omega arith))
    (step (goes refl (omega arith) refl refl)
    (step (goes refl (omega arith) refl refl)
    (step (goes refl (omega arith) refl refl)
    (step (goes refl (omega arith) refl refl)
    (step (goes refl (omega arith) refl refl)
    (step (grows refl (omega arith) refl refl)
    (step (goes refl (omega arith) refl refl)
    (step (goes refl (omega arith) refl refl)
    (step (goes refl (omega arith) refl refl)
    (step (goes refl (omega arith) refl refl)
    (step (goes refl (omega arith) refl refl) (step (goes refl (omega arith) refl refl) (end (values_left refl refl refl))))))))))))))

pub returns-clause-no_fuel : goal.returns-clause-no_fuel
returns-clause-no_fuel c =
    step (opens refl (omega arith) refl refl (omega arith))
    (step (goes refl (omega arith) refl refl)
    (step (goes refl (omega arith) refl refl)
    (step (goes refl (omega arith) refl refl)
    (step (goes refl (omega arith) refl refl) (step (goes refl (omega arith) refl refl) (end (no_fuel (omega arith) refl refl)))))))

pub returns-clause-inside : goal.returns-clause-inside
returns-clause-inside c =
    step (opens refl (omega arith) refl refl (omega arith))
    (step (goes refl (omega arith) refl refl)
    (step (goes refl (omega arith) refl refl)
    (step (goes refl (omega arith) refl refl)
    (step (goes refl (omega arith) refl refl)
    (step (grows refl (omega arith) refl refl)
    (step (goes refl (omega arith) refl refl)
    (step (goes refl (omega arith) refl refl) (step (goes refl (omega arith) refl refl) (end (values_left refl refl refl))))))))))

pub returns-clause-entry : goal.returns-clause-entry
returns-clause-entry c =
    step (opens refl (omega arith) refl refl (omega arith))
    (step (goes refl (omega arith) refl refl)
    (step (grows refl (omega arith) refl refl)
    (step (goes refl (omega arith) refl refl)
    (step (goes refl (omega arith) refl refl) (step (goes refl (omega arith) refl refl) (end (values_left refl refl refl)))))))

pub returns-clause-other_type : goal.returns-clause-other_type
returns-clause-other_type c =
    step (opens refl (omega arith) refl refl (omega arith)) (step (goes refl (omega arith) refl refl) (end (trapped refl (omega arith) refl refl)))

pub returns-clause-null_entry : goal.returns-clause-null_entry
returns-clause-null_entry c =
    step (opens refl (omega arith) refl refl (omega arith)) (step (goes refl (omega arith) refl refl) (end (trapped refl (omega arith) refl refl)))

pub returns-clause-past : goal.returns-clause-past
returns-clause-past c =
    step (opens refl (omega arith) refl refl (omega arith)) (step (goes refl (omega arith) refl refl) (end (trapped refl (omega arith) refl refl)))

pub returns-clause-host : goal.returns-clause-host
returns-clause-host c =
    step (opens refl (omega arith) refl refl (omega arith))
    (step (goes refl (omega arith) refl refl)
    (step (calls refl (omega arith) refl (refl, refl, 0, refl, refl, refl) refl) (end (values_left refl refl refl))))
