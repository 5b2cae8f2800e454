use Rattle.std.proofs.Common.{refl, arith}
use Rattle.meaning.specs.execution.Runs.{end, step, goes, grows, opens, trapped, values_left}
use Rattle.meaning.proofs.execution.tables_change_in_runs.Goals as goal

pub returns-clause-call : goal.returns-clause-call
returns-clause-call c = step (opens refl (omega arith) refl refl (omega arith))
    (step (goes refl (omega arith) refl refl)
    (step (opens refl (omega arith) refl refl (omega arith))
    (step (goes refl (omega arith) refl refl)
    (step (goes refl (omega arith) refl refl)
    (step (goes refl (omega arith) refl refl)
    (step (goes refl (omega arith) refl refl) (step (goes refl (omega arith) refl refl) (end (values_left refl refl refl)))))))))

pub returns-clause-other_type : goal.returns-clause-other_type
returns-clause-other_type c = step (opens refl (omega arith) refl refl (omega arith)) (step (goes refl (omega arith) refl refl) (end (trapped refl (omega arith) refl refl)))

pub returns-clause-null_entry : goal.returns-clause-null_entry
returns-clause-null_entry c = step (opens refl (omega arith) refl refl (omega arith)) (step (goes refl (omega arith) refl refl) (end (trapped refl (omega arith) refl refl)))

pub returns-clause-past : goal.returns-clause-past
returns-clause-past c = step (opens refl (omega arith) refl refl (omega arith)) (step (goes refl (omega arith) refl refl) (end (trapped refl (omega arith) refl refl)))

pub returns-clause-fill : goal.returns-clause-fill
returns-clause-fill c = step (opens refl (omega arith) refl refl (omega arith))
    (step (goes refl (omega arith) refl refl)
    (step (goes refl (omega arith) refl refl)
    (step (goes refl (omega arith) refl refl)
    (step (goes refl (omega arith) refl refl)
    (step (goes refl (omega arith) refl refl) (step (goes refl (omega arith) refl refl) (end (values_left refl refl refl))))))))

pub returns-clause-fill_past : goal.returns-clause-fill_past
returns-clause-fill_past c = step (opens refl (omega arith) refl refl (omega arith))
    (step (goes refl (omega arith) refl refl)
    (step (goes refl (omega arith) refl refl) (step (goes refl (omega arith) refl refl) (end (trapped refl (omega arith) refl refl)))))

pub returns-clause-init : goal.returns-clause-init
returns-clause-init c = step (opens refl (omega arith) refl refl (omega arith))
    (step (goes refl (omega arith) refl refl)
    (step (goes refl (omega arith) refl refl)
    (step (goes refl (omega arith) refl refl)
    (step (goes refl (omega arith) refl refl)
    (step (goes refl (omega arith) refl refl)
    (step (goes refl (omega arith) refl refl)
    (step (goes refl (omega arith) refl refl)
    (step (goes refl (omega arith) refl refl) (step (goes refl (omega arith) refl refl) (end (values_left refl refl refl)))))))))))

pub returns-clause-grow : goal.returns-clause-grow
returns-clause-grow c = step (opens refl (omega arith) refl refl (omega arith))
    (step (goes refl (omega arith) refl refl)
    (step (goes refl (omega arith) refl refl)
    (step (grows refl (omega arith) refl refl)
    (step (goes refl (omega arith) refl refl) (step (goes refl (omega arith) refl refl) (end (values_left refl refl refl)))))))

pub returns-clause-refused : goal.returns-clause-refused
returns-clause-refused c = step (opens refl (omega arith) refl refl (omega arith))
    (step (goes refl (omega arith) refl refl)
    (step (goes refl (omega arith) refl refl)
    (step (goes refl (omega arith) refl refl)
    (step (goes refl (omega arith) refl refl) (step (goes refl (omega arith) refl refl) (end (values_left refl refl refl)))))))
