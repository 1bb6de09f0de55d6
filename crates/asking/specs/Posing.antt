-- A question after its sheets and states were judged, as code has it.
use Rattle.std.specs.Prelude.{ℕ, ◌+◌, ◌*◌, ◌/◌, ◌≤◌, ◌<◌, ◌≡◌, false, List, length, get_or}
use Rattle.task.specs.Sizes.{limits}
use Rattle.task.specs.Task.{Task, column, column_count, size_of}
use Rattle.masks.specs.declared.Tables.{Tables}
use Rattle.masks.specs.Tables.{Tabled}
use Rattle.cutting.specs.declared.Blocks.{Blocks}
use Rattle.cut_sheets.specs.CutPart.{cut_on, count_of, judge_cuts}
use Rattle.cut_sheets.specs.Judged.{Made}
use Rattle.asking.specs.Question.{states_in, bad_states}

-- the sizes are those of the task's columns
abbrev pub SizesOf : Task → List ℕ → Type 0
SizesOf t sizes = (column_count t ≡ length sizes) × ((j : ℕ) → j < length sizes → size_of t (column j) ≡ get_or sizes j 0)

-- the tables of a task, an accepted part with the blocks of its cuts, and good states
pub record Posed (t : Task) (part : List ℕ) (g : Tables) (blocks : Blocks) (states : List ℕ) : Type 0 where
  pub tabled : Tabled t g
  pub fine : judge_cuts t part ≡ 0
  pub made : Made t (cut_on part) g.shape.columns (count_of part) blocks
  pub good : bad_states t states ≡ false

-- of some task, with a place for each state
pub record Answerable (part : List ℕ) (g : Tables) (blocks : Blocks) (states : List ℕ) (places : ℕ) : Type 0 where
  pub task : Task
  pub posed : Posed task part g blocks states
  pub room : states_in task states ≤ places

-- so few states of the columns, a place for each, at positions that a column can have, and cuts on those columns
pub record Fillable (columns count : ℕ) (cuts states : List ℕ) (places : ℕ) : Type 0 where
  pub some : 1 ≤ columns
  pub wide : columns ≤ limits.columns
  pub few : length states / columns ≤ limits.states
  pub room : length states / columns ≤ places
  pub there : (i : ℕ) → i < count → get_or cuts (i * 3 + 1) 0 < columns
  pub small : (i : ℕ) → i < length states → get_or states i 0 < limits.positions
