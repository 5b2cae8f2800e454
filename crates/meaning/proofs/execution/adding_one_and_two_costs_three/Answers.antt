use Rattle.std.proofs.Common.{refl, arith}
use Rattle.meaning.specs.execution.Runs.{end, step, goes, opens, values_left, no_fuel, no_depth}
use Rattle.meaning.proofs.execution.adding_one_and_two_costs_three.Goals as goal

pub returns-clause-fuel_10 : goal.returns-clause-fuel_10
returns-clause-fuel_10 c =
    step (opens refl (omega arith) refl refl (omega arith))
    (step (goes refl (omega arith) refl refl)
    (step (goes refl (omega arith) refl refl)
    (step (goes refl (omega arith) refl refl)
    (step (goes refl (omega arith) refl refl) (step (goes refl (omega arith) refl refl) (end (values_left refl refl refl)))))))

pub returns-clause-fuel_3 : goal.returns-clause-fuel_3
returns-clause-fuel_3 c =
    step (opens refl (omega arith) refl refl (omega arith))
    (step (goes refl (omega arith) refl refl)
    (step (goes refl (omega arith) refl refl)
    (step (goes refl (omega arith) refl refl)
    (step (goes refl (omega arith) refl refl) (step (goes refl (omega arith) refl refl) (end (values_left refl refl refl)))))))

pub returns-clause-fuel_2 : goal.returns-clause-fuel_2
returns-clause-fuel_2 c = step (opens refl (omega arith) refl refl (omega arith))
    (step (goes refl (omega arith) refl refl) (step (goes refl (omega arith) refl refl) (end (no_fuel (omega arith) refl refl))))

pub returns-clause-depth_0 : goal.returns-clause-depth_0
returns-clause-depth_0 c = end (no_depth refl (omega arith) (omega arith) refl refl)
