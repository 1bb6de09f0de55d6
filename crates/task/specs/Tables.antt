-- Which task a model's tables are. A step has a place for each column that a model can have.
use Rattle.std.proofs.Math.Option.{Option, none, some}
use Rattle.std.specs.Prelude as maybe
use Rattle.std.specs.Prelude.{ℕ, zero, suc, ◌+◌, ◌*◌, ◌≤◌, get_or}
use Rattle.task.specs.declared.Position.{Position}
use Rattle.task.specs.declared.Model.{Model}
use Rattle.task.specs.Loops.{tab}
use Rattle.task.specs.Sizes.{limits}
use Rattle.task.specs.Task.{Task, ColumnEntry, StepEntry, Change, position}

-- a position or none as on a sheet: 0 is none, anything else the position plus 1
abbrev pub mark : ℕ → maybe.Option Position
mark zero = maybe.None
mark (suc p) = maybe.Some (position p)

-- code's position or none as the definitions' one
unfoldable pub marked : maybe.Option Position → Option Position
marked maybe.None = none
marked (maybe.Some p) = some p

-- the place of a step and a column in the tables of needs and effects
abbrev pub place_of : ℕ → ℕ → ℕ
place_of s j = s * limits.columns + j

module _ (m : Model) where
  unfoldable pub column_entry : ℕ → ColumnEntry
  column_entry j = record { size = get_or m.size j 0; start = get_or m.start j (position 0); goal = marked (get_or m.goal j maybe.None) }

  unfoldable pub change_entry : ℕ → ℕ → Change
  change_entry s j = record { need = marked (get_or m.need (place_of s j) maybe.None); effect = marked (get_or m.effect (place_of s j) maybe.None) }

  unfoldable pub step_entry : ℕ → StepEntry
  step_entry s = record { cost = get_or m.cost s 0; changes = tab m.columns (change_entry s) }

  unfoldable pub task_of : Task
  task_of = record { columns = tab m.columns column_entry; steps = tab m.steps step_entry }

-- the counts are within the limits, so that every place is there
pub record WithinLimits (m : Model) : Type 0 where
  pub columns : m.columns ≤ limits.columns
  pub steps : m.steps ≤ limits.steps
