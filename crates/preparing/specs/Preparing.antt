-- The tables that a run, a question and a replay work on: a task as code has it.
use Rattle.std.specs.Prelude.{◌<◌, ◌≡◌, get_or}
use Rattle.task.specs.declared.Column.{Column}
use Rattle.task.specs.Task.{Task, column_count, size_of}
use Rattle.masks.specs.declared.Tables.{Tables}
use Rattle.masks.specs.Tables.{Tabled}

-- the tables are those of the task, and so are the sizes of its columns
pub record Prepared (t : Task) (g : Tables) : Type 0 where
  pub tabled : Tabled t g
  pub sizes : (j : Column) → j.0 < column_count t → size_of t j ≡ get_or g.sizes j.0 0
