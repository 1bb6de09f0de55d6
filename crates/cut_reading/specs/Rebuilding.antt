-- Rebuilding: a model sheet and a cut sheet are judged, and a lent list is filled with the cuts.
use Rattle.std.specs.Prelude.{ℕ, ◌≡◌, List}
use Rattle.task.specs.Loops.{over}
use Rattle.task.specs.Task.{column_count}
use Rattle.fields.specs.Judging.{refusal, unless_refused}
use Rattle.fields.specs.Refusals.{Answered, Done, Refused}
use Rattle.cutting.specs.declared.Blocks.{Blocks}
use Rattle.cut_sheets.specs.CutPart.{count_of, cut_on}
use Rattle.cut_sheets.specs.CutSheet.{tail_of, cut_sheet_checks, cut_list, rebuild_checks}
use Rattle.cut_sheets.specs.Judged.{Made}
use Rattle.sheets.specs.Holding.{task_on}

-- both sheets were judged; where neither was refused, the blocks are those of the cuts
pub record SheetJudged (model s : List ℕ) (r : ℕ) (blocks : Blocks) : Type 0 where
  pub refused : r ≡ refusal (cut_sheet_checks model s)
  pub made : r ≡ 0 → Made (task_on model) (cut_on (tail_of s)) (column_count (task_on model)) (count_of (tail_of s)) blocks

-- an answer's refusal number; 0 for none
unfoldable pub number : Answered ℕ → ℕ
number (Done n) = 0
number (Refused n) = n

pub record RebuildOutcome : Type 0 where
  pub answer : Answered ℕ
  pub cuts : List ℕ

abbrev pub rebuild_outcome : Answered ℕ → List ℕ → RebuildOutcome
rebuild_outcome a cuts = record { answer = a; cuts = cuts }

-- a refusal returns only its number and changes nothing lent; else the list has the cuts, and places past the last one stay
unfoldable pub rebuilding : List ℕ → List ℕ → List ℕ → RebuildOutcome
rebuilding model s cuts =
    unless_refused (refusal (rebuild_checks model s cuts)) (rebuild_outcome (Done (count_of (tail_of s))) (over (cut_list s) cuts))
    (λ n. rebuild_outcome (Refused n) cuts)

-- what `rebuild` promises, whatever is passed: the answer, which is the number of cuts, and the list at exit
abbrev pub Rebuilds : (model s cuts : List ℕ) → Answered ℕ → (cuts' : List ℕ) → Type 0
Rebuilds model s cuts r cuts' = rebuild_outcome r cuts' ≡ rebuilding model s cuts
