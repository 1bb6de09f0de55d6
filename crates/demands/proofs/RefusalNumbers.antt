-- Which of 01's numbers each operation can answer, 0 for no refusal: those of its checks, which the crates of laws compose from the parts of its list of
-- checks. The entries and the run of crate rows have the library's lists, of what they are lent as values, and so the library's numbers.
use Prim.Native.Nat.{ℕ, ◌^◌, ◌<◌}
use mathlib.Core.Path.{◌≡◌, refl}
use mathlib.Core.Bool.{true}
use mathlib.Core.List.{List, ◌∷◌}
use lib.Dec.{ltb}
use borrow.Author.Tests.{ltb-true}
use Rattle.fields.specs.Judging.{refusal}
use Rattle.fields.proofs.ExactLaws.{has, gives}
use Rattle.sheets.specs.ModelSheet.{Source}
use Rattle.sheets.specs.LentTables.{read_checks, write_checks}
use Rattle.sheet_laws.proofs.Refusals as sheet
use Rattle.cut_sheets.specs.CutSheet.{rebuild_checks, write_cuts_checks}
use Rattle.cut_laws.proofs.Refusals as cut
use Rattle.asking.specs.Question.{question_checks}
use Rattle.question_laws.proofs.Refusals as asked
use Rattle.replay.specs.Replay.{replay_checks}
use Rattle.replay_laws.proofs.Refusals as replayed
use Rattle.running.specs.Running.{run_checks}
use Rattle.run_laws.proofs.Refusals as ran

-- a sheet read or written; a cut sheet read; cuts written; a question; a replay; a run
abbrev pub sheet_numbers : List ℕ
sheet_numbers = 0 ∷ sheet.lent_numbers

abbrev pub rebuild_numbers : List ℕ
rebuild_numbers = 0 ∷ cut.rebuild_numbers

abbrev pub cut_numbers : List ℕ
cut_numbers = 0 ∷ cut.cut_numbers

abbrev pub question_numbers : List ℕ
question_numbers = 0 ∷ asked.numbers

abbrev pub replay_numbers : List ℕ
replay_numbers = 0 ∷ replayed.numbers

abbrev pub run_numbers : List ℕ
run_numbers = 0 ∷ ran.numbers

-- ---- the lists of checks
pub read-gives : (s frame costs marks : List ℕ) → has sheet_numbers (refusal (read_checks s frame costs marks)) ≡ true
read-gives s frame costs marks = gives (has sheet_numbers) sheet.lent_numbers refl (read_checks s frame costs marks) (sheet.read-numbers s frame costs marks)

pub write-gives : (q : Source) (sheet₀ : List ℕ) → has sheet_numbers (refusal (write_checks q sheet₀)) ≡ true
write-gives q sheet₀ = gives (has sheet_numbers) sheet.lent_numbers refl (write_checks q sheet₀) (sheet.write-numbers q sheet₀)

pub rebuild-gives : (model s cuts : List ℕ) → has rebuild_numbers (refusal (rebuild_checks model s cuts)) ≡ true
rebuild-gives model s cuts = gives (has rebuild_numbers) cut.rebuild_numbers refl (rebuild_checks model s cuts) (cut.rebuild-numbers model s cuts)

pub write-cuts-gives : (model : List ℕ) (count : ℕ) (cuts sheet₀ : List ℕ) → has cut_numbers (refusal (write_cuts_checks model count cuts sheet₀)) ≡ true
write-cuts-gives model count cuts sheet₀ =
    gives (has cut_numbers) cut.cut_numbers refl (write_cuts_checks model count cuts sheet₀) (cut.write-numbers model count cuts sheet₀)

pub question-gives : (model s states est : List ℕ) → has question_numbers (refusal (question_checks model s states est)) ≡ true
question-gives model s states est =
    gives (has question_numbers) asked.numbers refl (question_checks model s states est) (asked.question-numbers model s states est)

-- a number takes no more than a byte of an answer
module _ {A : Type 0} (model s log : List ℕ) (rows : List A) where
  pub replay-gives : has replay_numbers (refusal (replay_checks model s log rows)) ≡ true
  replay-gives = gives (has replay_numbers) replayed.numbers refl (replay_checks model s log rows) (replayed.replay-numbers model s log rows)

  pub replay-byte : refusal (replay_checks model s log rows) < 2 ^ 8
  replay-byte =
      ltb-true _ (2 ^ 8) (gives (λ n. ltb n (2 ^ 8)) replayed.numbers refl (replay_checks model s log rows) (replayed.replay-numbers model s log rows))

module _ (s : List ℕ) (room : ℕ) (cuts rows : List ℕ) where
  pub run-gives : has run_numbers (refusal (run_checks s room cuts rows)) ≡ true
  run-gives = gives (has run_numbers) ran.numbers refl (run_checks s room cuts rows) (ran.run-numbers s room cuts rows)

  pub run-byte : refusal (run_checks s room cuts rows) < 2 ^ 8
  run-byte = ltb-true _ (2 ^ 8) (gives (λ n. ltb n (2 ^ 8)) ran.numbers refl (run_checks s room cuts rows) (ran.run-numbers s room cuts rows))
