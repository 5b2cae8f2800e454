use Rattle.std.proofs.Common.{◌≡◌, [], ◌∷◌, false, true, refl}
use Rattle.isolation.specs.Reach.{Function, Instance, IsReached, Memory, Table, onward, start}
use Rattle.isolation.specs.Rows.{FromFirst, function_in, instance_with, table_of_second, with_table}
use Rattle.isolation.proofs.rows.a_table_entry_leads_out.Goals as goal

pub returns-clause-open : goal.returns-clause-open
returns-clause-open c closed = let wrong : false ≡ true = (closed.tables 0 table_of_second refl refl).0 in absurd cc

first : IsReached with_table FromFirst (Memory 1)
first = onward {from = Instance 1}
    (onward {from = Function 1} (onward {from = Table 0}
    (onward {from = Instance 0} (start refl) (record (instance_with 0) { tables = 0 ∷ [] }, refl, (0, refl))) (table_of_second, refl, (0, refl)))
    (function_in 1, _, refl, refl)) (instance_with 1, refl, (0, refl))

pub returns-clause-reached : goal.returns-clause-reached
returns-clause-reached c = first

pub returns-clause-shared : goal.returns-clause-shared
returns-clause-shared c apart = apart.memories 1 first (onward (start refl) (instance_with 1, refl, (0, refl)))
