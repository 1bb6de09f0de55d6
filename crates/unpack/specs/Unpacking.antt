-- Reading a model sheet into the task's own tables, by value.
use Rattle.std.specs.Prelude.{ℕ, ◌+◌, ◌*◌, ◌≡◌, List}
use Rattle.task.specs.Sizes.{limits, step_places}
use Rattle.task.specs.declared.Model.{Model}
use Rattle.task.specs.declared.Position.{Position}
use Rattle.std.specs.Prelude as maybe
use Rattle.task.specs.Task.{position}
use Rattle.task.specs.Tables.{mark}
use Rattle.fields.specs.Bits.{field_at}
use Rattle.fields.specs.Refusals.{Answered, Done, Refused}
use Rattle.fields.specs.Judging.{unless_refused}
use Rattle.sheets.specs.ModelSheet.{column_bits, model_bits, of_sheet, judge_sheet}
use Rattle.sheets.specs.Holding.{unused, model_of}

-- the model of the sheet, or the refusal
unfoldable pub unpacked : List ℕ → Answered Model
unpacked s = unless_refused (judge_sheet s) (Done (model_of (of_sheet s))) Refused

-- no model yet: nothing counted, and every place as one that a model does not use
pub record Empty (m : Model) : Type 0 where
  pub columns : m.columns ≡ 0
  pub steps : m.steps ≡ 0
  pub size : m.size ≡ unused limits.columns 0
  pub start : m.start ≡ unused limits.columns (position 0)
  pub goal : m.goal ≡ unused limits.columns maybe.None
  pub cost : m.cost ≡ unused limits.steps 0
  pub need : m.need ≡ unused step_places maybe.None
  pub effect : m.effect ≡ unused step_places maybe.None

-- ---- what the parts of the code put into each table
unfoldable pub size_on : List ℕ → ℕ → ℕ
size_on s i = field_at s (column_bits i) 6

unfoldable pub start_on : List ℕ → ℕ → Position
start_on s i = position (field_at s (column_bits i + 6) 5)

unfoldable pub goal_on : List ℕ → ℕ → maybe.Option Position
goal_on s i = mark (field_at s (column_bits i + 6 + 5) 6)

unfoldable pub tenths_on : List ℕ → ℕ → ℕ → ℕ
tenths_on s n j = field_at s (model_bits n j) 16
