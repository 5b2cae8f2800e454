-- The cost of a step that executes an instruction, which is this project's own. Leaving a label or a frame, and an entry from outside,
-- cost 0.
use Rattle.std.specs.Prelude.{ℕ, ◌+◌, ◌*◌, ◌/◌}

abbrev pub instruction_cost : ℕ
instruction_cost = 1

-- A bulk instruction on that many entries of tables, and a growth by that many.
abbrev pub entries_cost : (count : ℕ) → ℕ
entries_cost count = instruction_cost + count / 8

-- A bulk instruction on that many bytes, and a growth by that many pages.
abbrev pub bulk_cost : (count : ℕ) → ℕ
bulk_cost count = instruction_cost + count / 64

abbrev pub growth_cost : (pages : ℕ) → ℕ
growth_cost pages = instruction_cost + 1024 * pages
