-- 01, "Refusal numbers", of a run: a number is returned exactly when its row applies and no earlier check does, and a refusal leaves
-- everything lent as found. The checks, in 01's order, are `run_checks`.
use Prim.Native.Nat.{ℕ}
use mathlib.Core.Path.{◌≡◌, refl}
use mathlib.Core.List.{List, [], ◌∷◌, ◌++◌}
use Rattle.task.specs.Task.{Task}
use Rattle.fields.specs.Refusals.{Done, Refused}
use Rattle.fields.proofs.ExactLaws.{has, Numbers, numbers-append, Judged, judges}
use Rattle.sheets.specs.ModelSheet.{sheet_checks}
use Rattle.sheets.specs.Holding.{task_on}
use Rattle.sheet_laws.proofs.Refusals as sheet
use Rattle.run.specs.Run as run
use Rattle.run.specs.Run.{plan, no_plan, «open»}
use Rattle.running.specs.Running.{room_checks, run_checks, returned, number, RunOutcome, run_outcome, made, running}

-- a run that is made refuses nothing
pub told-number : (t : Task) (b : ℕ) (a : run.Answer) → number (Done (returned t b a)) ≡ 0
unfolding number returned
told-number t b (plan ss) = refl
told-number t b no_plan = refl
told-number t b («open» e) = refl

-- which numbers a run can get
abbrev pub numbers : List ℕ
numbers = sheet.numbers ++ (7 ∷ 8 ∷ [])

module _ (s : List ℕ) (room : ℕ) (cuts rows : List ℕ) where
  pub run-numbers : Numbers (has numbers) (run_checks s room cuts rows)
  unfolding run_checks room_checks
  run-numbers = numbers-append (has numbers) sheet.numbers refl (sheet_checks s) _ (sheet.sheet-numbers s) refl

  pub runner : Judged (λ (o : RunOutcome). number o.answer) (λ n. run_outcome (Refused n) cuts rows) (run_checks s room cuts rows) (made (task_on s) (run.run (task_on s) room) cuts rows) (running s room cuts rows)
  unfolding running made number
  runner =
      let t = task_on s in
      judges _ _ numbers refl (run_checks s room cuts rows) run-numbers _ (told-number t (run.block_count (run.run t room)) (run.run t room).answer) refl
