-- Reading a model sheet into lent tables: the answer, and what the tables then hold.
use Rattle.std.specs.Prelude.{ℕ, ◌≡◌, List, Result}
use Rattle.task.specs.Loops.{over}
use Rattle.fields.specs.Judging.{refusal, unless_refused}
use Rattle.sheets.specs.ModelSheet.{columns_of, steps_of, of_sheet}
use Rattle.sheets.specs.LentTables.{frame_of, costs_of, marks_of, read_checks}
use Rattle.fields.specs.declared.refusal.Refusal.{Refusal}
use Rattle.fields.specs.Refusals.{Answered, Done, Refused, told_as}
use Rattle.task.specs.declared.Shape.{Shape}

-- the numbers of columns and steps
pub record Counts : Type 0 where
  pub columns : ℕ
  pub steps : ℕ

abbrev pub counts : ℕ → ℕ → Counts
counts columns steps = record { columns = columns; steps = steps }

-- the code's answer in 01's words
abbrev pub told_counts : Result Shape Refusal → Answered Counts
told_counts = told_as (λ shape. counts shape.columns shape.steps)

pub record ReadOutcome : Type 0 where
  pub answer : Answered Counts
  pub frame : List ℕ
  pub costs : List ℕ
  pub marks : List ℕ

abbrev pub read_outcome : Answered Counts → List ℕ → List ℕ → List ℕ → ReadOutcome
read_outcome a frame costs marks = record { answer = a; frame = frame; costs = costs; marks = marks }

-- a refusal returns only its number and changes nothing lent; else the tables hold the model, and places past the last one used stay
unfoldable pub reading : List ℕ → List ℕ → List ℕ → List ℕ → ReadOutcome
reading s frame costs marks =
    unless_refused (refusal (read_checks s frame costs marks))
    (read_outcome (Done (counts (columns_of s) (steps_of s)))
    (over (frame_of (of_sheet s)) frame) (over (costs_of (of_sheet s)) costs) (over (marks_of (of_sheet s)) marks))
    (λ n. read_outcome (Refused n) frame costs marks)

-- what `read_model` promises, whatever is passed: the answer and the three tables at exit
abbrev pub ReadsModel : (sheet frame costs marks : List ℕ) → Answered Counts → (frame' costs' marks' : List ℕ) → Type 0
ReadsModel sheet frame costs marks r frame' costs' marks' = read_outcome r frame' costs' marks' ≡ reading sheet frame costs marks
