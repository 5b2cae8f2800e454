-- Locals in runs of one type, each run by the index where it ends.
use Rattle.std.specs.Prelude.{ℕ, zero, suc, ◌-◌, ◌≤◌, ◌<◌, ◌^◌, List, [], ◌∷◌, ◌++◌, replicate}
use Rattle.core_types.specs.declared.types.ValType.{ValType}
use Rattle.core_types.specs.declared.locals.LocalRun.{LocalRun}

-- The types of the locals, one by one, from this index on.
abbrev pub expanded : ℕ → List LocalRun → List ValType
expanded start [] = []
expanded start (run ∷ runs) = replicate (run.end - start) run.ty ++ expanded run.end runs

-- No run ends before it begins, and indices have 32 bits.
abbrev pub IsAscending : ℕ → List LocalRun → Type 0
IsAscending start [] = start < 2 ^ 32
IsAscending start (run ∷ runs) = (start ≤ run.end) × IsAscending run.end runs

-- Where the last run ends.
abbrev pub end_of : ℕ → List LocalRun → ℕ
end_of start [] = start
end_of start (run ∷ runs) = end_of run.end runs

-- Where the run at this index begins.
abbrev pub start_of : ℕ → List LocalRun → ℕ → ℕ
start_of start runs zero = start
start_of start [] (suc k) = start
start_of start (run ∷ runs) (suc k) = start_of run.end runs k
