-- A replay as code makes it: accepted sheets, and what is left to judge after them.
use Rattle.std.specs.Prelude.{ℕ, ◌*◌, ◌≡◌, not, List, [], ◌∷◌, eqb, ℤ, length}
use Rattle.task.specs.Loops.{over}
use Rattle.task.specs.Task.{Task, column_count}
use Rattle.fields.specs.Judging.{check, refusal, unless_refused}
use Rattle.sheets.specs.ModelSheet.{judge_sheet}
use Rattle.sheets.specs.Holding.{task_on}
use Rattle.sheets.specs.LentTables.{too_few}
use Rattle.blocks.specs.declared.Cut.{Cut}
use Rattle.cut_sheets.specs.CutPart.{cut_on, count_of, judge_cuts}
use Rattle.cut_sheets.specs.Judged.{Made}
use Rattle.cutting.specs.declared.Blocks.{Blocks}
use Rattle.replay.specs.Replay.{Rows, bad_row, row_list, refused, ReplayOutcome, replay_outcome}

-- accepted sheets: the model's, and the part with the cuts, with their blocks
pub record Sheets (model part : List ℕ) (blocks : Blocks) : Type 0 where
  pub model-fine : judge_sheet model ≡ 0
  pub part-fine : judge_cuts (task_on model) part ≡ 0
  pub made : Made (task_on model) (cut_on part) (column_count (task_on model)) (count_of part) blocks

-- what is left of a replay after the sheets and the length of its log: 14, then 8
unfoldable pub replayed_on : Task → List Cut → List ℕ → List ℤ → ReplayOutcome
replayed_on t cs log rows =
    unless_refused (refusal (check 14 (not (eqb (bad_row t log) 0)) ∷ too_few (length log * 3) rows ∷ []))
    (replay_outcome (Rows (length log)) (over (row_list t cs log) rows))
    (λ n. replay_outcome (refused t log n) rows)
