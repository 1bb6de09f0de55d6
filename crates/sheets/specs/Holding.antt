-- Which task a sheet holds, and its model by value.
use Rattle.std.specs.Prelude.{ℕ, ◌*◌, ◌/◌, ◌%◌, cond, List, replicate, ltb}
use Rattle.task.specs.declared.Model.{Model}
use Rattle.std.specs.Prelude as maybe
use Rattle.task.specs.declared.Position.{Position}
use Rattle.task.specs.Loops.{tab, over}
use Rattle.task.specs.Sizes.{limits, step_places}
use Rattle.task.specs.Task.{Task, ColumnEntry, Change, StepEntry, position}
use Rattle.task.specs.Tables.{mark, marked}
use Rattle.fields.specs.Judging.{Field}
use Rattle.sheets.specs.ModelSheet.{ColumnFields, MarkFields, Source, columns_in, steps_in, of_sheet}

-- ---- the task that the fields say
unfoldable pub column_said : (ℕ → ColumnFields) → ℕ → ColumnEntry
column_said c i = record { size = (c i).size.value; start = position (c i).start.value; goal = marked (mark (c i).goal.value) }

unfoldable pub change_said : (ℕ → ℕ → MarkFields) → ℕ → ℕ → Change
change_said k j i = record { need = marked (mark (k j i).need.value); effect = marked (mark (k j i).effect.value) }

unfoldable pub step_said : (ℕ → Field) → (ℕ → ℕ → MarkFields) → ℕ → ℕ → StepEntry
step_said cost k n j = record { cost = (cost j).value; changes = tab n (change_said k j) }

unfoldable pub task_in : Source → Task
task_in p = record { columns = tab (columns_in p) (column_said p.column); steps = tab (steps_in p) (step_said p.cost p.marks (columns_in p)) }

-- ---- the model by value: places that it does not use are 0
unfoldable pub unused : {A : Type 0} → ℕ → A → List A
unused places a = replicate places a

-- place k of a table of marks: by step and column, each step with a place for every column that a model can have; or none past the n columns
unfoldable pub mark_place : (ℕ → ℕ → ℕ) → ℕ → ℕ → maybe.Option Position
mark_place f n k = cond (ltb (k % limits.columns) n) (mark (f (k / limits.columns) (k % limits.columns))) maybe.None

unfoldable pub mark_table : (ℕ → ℕ → ℕ) → ℕ → ℕ → List (maybe.Option Position)
mark_table f n m = over (tab (m * limits.columns) (mark_place f n)) (unused step_places maybe.None)

unfoldable pub model_of : Source → Model
model_of p =
    record {
      columns = columns_in p;
      steps = steps_in p;
      size = over (tab (columns_in p) (λ i. (p.column i).size.value)) (unused limits.columns 0);
      start = over (tab (columns_in p) (λ i. position (p.column i).start.value)) (unused limits.columns (position 0));
      goal = over (tab (columns_in p) (λ i. mark (p.column i).goal.value)) (unused limits.columns maybe.None);
      cost = over (tab (steps_in p) (λ j. (p.cost j).value)) (unused limits.steps 0);
      need = mark_table (λ j i. (p.marks j i).need.value) (columns_in p) (steps_in p);
      effect = mark_table (λ j i. (p.marks j i).effect.value) (columns_in p) (steps_in p);
    }

-- the task that a sheet holds
unfoldable pub task_on : List ℕ → Task
task_on s = task_in (of_sheet s)
