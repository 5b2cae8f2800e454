use Rattle.std.proofs.Common.{refl, arith}
use Rattle.meaning.specs.execution.Runs.{end, step, goes, opens, calls, host_trapped, values_left}
use Rattle.meaning.proofs.execution.hosts_answer_calls.Goals as goal

pub returns-clause-from_code : goal.returns-clause-from_code
returns-clause-from_code c =
    step (opens refl (omega arith) refl refl (omega arith))
    (step (calls refl (omega arith) refl (refl, refl, 0, refl, refl, refl) refl)
    (step (calls refl (omega arith) refl (refl, refl, 1, refl, refl, refl) refl)
    (step (goes refl (omega arith) refl refl) (step (goes refl (omega arith) refl refl) (end (values_left refl refl refl))))))

pub returns-clause-from_outside : goal.returns-clause-from_outside
returns-clause-from_outside c =
    step (calls refl (omega arith) refl (refl, refl, 4, refl, refl, refl) refl) (end (values_left refl refl refl))

pub returns-clause-trap : goal.returns-clause-trap
returns-clause-trap c =
    step (opens refl (omega arith) refl refl (omega arith))
    (step (goes refl (omega arith) refl refl)
    (step (goes refl (omega arith) refl refl) (end (host_trapped refl (omega arith) refl (refl, refl, refl, refl) refl))))
