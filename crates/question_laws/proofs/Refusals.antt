-- 01, "Refusal numbers", of a question: a number is returned exactly when its row applies and no earlier check does, and a refusal leaves
-- everything lent as found. The checks, in 01's order, are `question_checks`.
use Prim.Native.Nat.{ℕ}
use mathlib.Core.Path.{refl}
use mathlib.Core.List.{List, [], ◌∷◌, ◌++◌}
use Rattle.task.specs.Loops.{over}
use Rattle.fields.specs.Refusals.{Done, Refused}
use Rattle.fields.proofs.ExactLaws.{has, Numbers, numbers-append, Judged, judges}
use Rattle.sheets.specs.Holding.{task_on}
use Rattle.cut_sheets.specs.CutSheet.{cut_sheet_checks, cuts_of}
use Rattle.cut_laws.proofs.Refusals.{sheets_numbers, sheets-numbers}
use Rattle.asking.specs.Question.{states_in, estimates_of, question_checks, QuestionOutcome, question_outcome, number, asking}

-- which numbers a question can get
abbrev pub numbers : List ℕ
numbers = sheets_numbers ++ (11 ∷ 8 ∷ [])

module _ (model s states est : List ℕ) where
  pub question-numbers : Numbers (has numbers) (question_checks model s states est)
  unfolding question_checks
  question-numbers = numbers-append (has numbers) sheets_numbers refl (cut_sheet_checks model s) _ (sheets-numbers model s) refl

  pub asker : Judged (λ (o : QuestionOutcome). number o.answer) (λ n. question_outcome (Refused n) est) (question_checks model s states est)
      (question_outcome (Done (states_in (task_on model) states)) (over (estimates_of (task_on model) (cuts_of s) states) est)) (asking model s states est)
  unfolding asking number
  asker = judges _ _ numbers refl (question_checks model s states est) question-numbers _ refl refl
