-- Which task the tables are of that code works on.
use Rattle.std.specs.Prelude.{◌≡◌, List, ℕ, replicate}
use Rattle.task.specs.Sizes.{limits, table_places}
use Rattle.task.specs.declared.Model.{Model}
use Rattle.task.specs.Task.{Task, Accepted, start}
use Rattle.blocks.specs.Masks as sets
use Rattle.blocks.specs.Masks.{Stands, lands_in, goals_in, start_in, tables_of}
use Rattle.masks.specs.declared.Tables.{Tables}

-- the tables are those of a task
abbrev pub TablesOf : Task → Tables → Type 0
TablesOf t g = sets.Tables t g.shape.columns g.shape.steps g.rows (lands_in g.rows) (goals_in g.rows) g.costs

-- and the task is accepted, with its start as it stands
pub record Tabled (t : Task) (g : Tables) : Type 0 where
  pub task : Accepted t
  pub own : TablesOf t g
  pub start : Stands t (start t) (start_in g.rows)

-- no task's: nothing but zeros
pub record Unfilled (g : Tables) : Type 0 where
  pub columns : g.shape.columns ≡ 0
  pub steps : g.shape.steps ≡ 0
  pub rows : g.rows ≡ replicate table_places 0
  pub costs : g.costs ≡ replicate limits.steps 0
  pub sizes : g.sizes ≡ replicate limits.columns 0

-- a model's tables, laid over what the rows held
pub record Filled (m : Model) (old : List ℕ) (g : Tables) : Type 0 where
  pub columns : g.shape.columns ≡ m.columns
  pub steps : g.shape.steps ≡ m.steps
  pub rows : g.rows ≡ tables_of m old
  pub costs : g.costs ≡ m.cost
  pub sizes : g.sizes ≡ m.size
