use Rattle.std.proofs.Common.{refl, arith}
use Rattle.meaning.specs.execution.Runs.{end, step, goes, opens, values_left, no_fuel, no_depth}
use Rattle.meaning.proofs.execution.control_keeps_its_order.Goals as goal

pub returns-clause-endless_loop : goal.returns-clause-endless_loop
returns-clause-endless_loop c =
    step (opens refl (omega arith) refl refl (omega arith))
    (step (goes refl (omega arith) refl refl)
    (step (goes refl (omega arith) refl refl) (step (goes refl (omega arith) refl refl) (end (no_fuel (omega arith) refl refl)))))

pub returns-clause-branch : goal.returns-clause-branch
returns-clause-branch c =
    step (opens refl (omega arith) refl refl (omega arith))
    (step (goes refl (omega arith) refl refl)
    (step (goes refl (omega arith) refl refl)
    (step (goes refl (omega arith) refl refl)
    (step (goes refl (omega arith) refl refl)
    (step (goes refl (omega arith) refl refl)
    (step (goes refl (omega arith) refl refl) (step (goes refl (omega arith) refl refl) (end (values_left refl refl refl)))))))))

pub returns-clause-results : goal.returns-clause-results
returns-clause-results c =
    step (opens refl (omega arith) refl refl (omega arith))
    (step (goes refl (omega arith) refl refl)
    (step (goes refl (omega arith) refl refl)
    (step (goes refl (omega arith) refl refl) (step (goes refl (omega arith) refl refl) (end (values_left refl refl refl))))))

pub returns-clause-if_not_zero : goal.returns-clause-if_not_zero
returns-clause-if_not_zero c =
    step (opens refl (omega arith) refl refl (omega arith))
    (step (goes refl (omega arith) refl refl)
    (step (goes refl (omega arith) refl refl)
    (step (goes refl (omega arith) refl refl)
    (step (goes refl (omega arith) refl refl)
    (step (goes refl (omega arith) refl refl) (step (goes refl (omega arith) refl refl) (end (values_left refl refl refl))))))))

pub returns-clause-if_zero : goal.returns-clause-if_zero
returns-clause-if_zero c =
    step (opens refl (omega arith) refl refl (omega arith))
    (step (goes refl (omega arith) refl refl)
    (step (goes refl (omega arith) refl refl)
    (step (goes refl (omega arith) refl refl)
    (step (goes refl (omega arith) refl refl)
    (step (goes refl (omega arith) refl refl) (step (goes refl (omega arith) refl refl) (end (values_left refl refl refl))))))))

pub returns-clause-depth_first : goal.returns-clause-depth_first
returns-clause-depth_first c =
    step (opens refl (omega arith) refl refl (omega arith)) (end (no_depth refl (omega arith) (omega arith) refl refl))

pub returns-clause-fuel_first : goal.returns-clause-fuel_first
returns-clause-fuel_first c =
    step (opens refl (omega arith) refl refl (omega arith)) (end (no_fuel (omega arith) refl refl))
