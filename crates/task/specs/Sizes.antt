-- 01, "Sizes", and the length of a log in order 7 of 02. The limits belong to the model: this is the definitions' one copy of each number, and `Model::limits`
-- returns it. What follows from them has a name here, so that a number is nowhere written a second time.
use Rattle.std.specs.Prelude.{ℕ, ◌+◌, ◌-◌, ◌*◌}
use Rattle.task.specs.declared.Limits.{Limits}

abbrev pub limits : Limits
limits = record { columns = 16; positions = 32; steps = 128; blocks = 256; states = 64; log = 255; no_way = 16777215 }

-- the cuts of a run, and the steps of a plan: one less than there are blocks
abbrev pub most_steps : ℕ
most_steps = limits.blocks - 1

-- the values of that many cuts or rows, three for each
abbrev pub most_values : ℕ
most_values = most_steps * 3

-- a place for each column of each step, and of each block
abbrev pub step_places : ℕ
step_places = limits.steps * limits.columns

abbrev pub block_places : ℕ
block_places = limits.blocks * limits.columns

-- the rows of a task's tables after those of the steps' needs: the first landing, the goal, the start; and all their places
abbrev pub lands_row : ℕ
lands_row = limits.steps

abbrev pub goal_row : ℕ
goal_row = 2 * limits.steps

abbrev pub start_row : ℕ
start_row = 2 * limits.steps + 1

abbrev pub table_places : ℕ
table_places = (2 * limits.steps + 2) * limits.columns

-- what a step costs is two bytes on the sheet
abbrev pub most_cost : ℕ
most_cost = 65535

-- and so a plan costs no more than
abbrev pub most_tenths : ℕ
most_tenths = most_steps * most_cost

-- a distance as one number holds its cost times this, and its steps
abbrev pub tenth : ℕ
tenth = 65536
