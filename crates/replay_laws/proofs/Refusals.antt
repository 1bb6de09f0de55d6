-- 01, "Refusal numbers", and order 7 of 02, of a replay: a number is returned exactly when its row applies and no earlier check does, 14 with the first
-- row that is unknown or cannot be taken, and a refusal leaves the list as found. The checks, in 02's order, are `replay_checks`.
use Prim.Native.Nat.{ℕ, ◌≤◌, ◌*◌}
use native.Mathlib.Omega.{arith}
use mathlib.Core.Path.{◌≡◌, refl, sym, ap, ◌∙◌}
use mathlib.Core.Bool.{Bool, true, false, not, cond}
use mathlib.Core.List.{List, [], ◌∷◌, ◌++◌}
use lib.Dec.{eqb, ltb}
use lib.IntN.{ℤ}
use lib.ListN.{length}
use borrow.Author.Tests.{eqb-true, eqb-false, eq-eqb, ltb-false, not-true, not-false}
use Rattle.task.specs.Loops.{over}
use Rattle.task.specs.Sizes.{limits}
use Rattle.task.specs.Task.{Task}
use Rattle.fields.specs.Judging.{Check, check, ◌then◌, refusal}
use Rattle.fields.proofs.ExactLaws.{has, Numbers, numbers-append, gives, Judged, judges}
use Rattle.fields.proofs.JudgingLaws.{neither, passed, refusal-append}
use Rattle.sheets.specs.Holding.{task_on}
use Rattle.sheets.specs.LentTables.{too_few}
use Rattle.cut_sheets.specs.CutSheet.{cut_sheet_checks, cuts_of}
use Rattle.cut_laws.proofs.Refusals.{sheets_numbers, sheets-numbers}
use Rattle.replay.specs.Replay.{Rows, Stopped, Refused, bad_row, row_list, log_checks, replay_checks, number, refused, ReplayOutcome, replay_outcome, replaying}

-- which numbers a replay can get
abbrev pub numbers : List ℕ
numbers = sheets_numbers ++ (15 ∷ 14 ∷ 8 ∷ [])

pub refused-number : (t : Task) (log : List ℕ) (n : ℕ) → number (refused t log n) ≡ n
unfolding number refused
refused-number t log n = split (eqb n 14) refl
  where
    split : (b : Bool) → eqb n 14 ≡ b → number (cond b (Stopped (bad_row t log)) (Refused n)) ≡ n
    split true e = sym (eqb-true n 14 e)
    split false e = refl

-- ---- the checks of a replay, whatever the rows are lent as
module _ {A : Type 0} (model s log : List ℕ) (rows : List A) where
  abbrev checks : List Check
  checks = replay_checks model s log rows

  abbrev few : Check
  few = too_few (length log * 3) rows

  pub replay-numbers : Numbers (has numbers) checks
  unfolding replay_checks log_checks
  replay-numbers = numbers-append (has numbers) sheets_numbers refl (cut_sheet_checks model s) _ (sheets-numbers model s) refl

  -- what no refusal says
  pub record Passed : Type 0 where
    pub sheets : refusal (cut_sheet_checks model s) ≡ 0
    pub short : length log ≤ limits.log
    pub fine : bad_row (task_on model) log ≡ 0
    pub places : length log * 3 ≤ length rows

  pub quiet : refusal checks ≡ 0 → Passed
  unfolding replay_checks log_checks
  quiet z =
      let p = neither (refusal (cut_sheet_checks model s)) _ (sym (refusal-append (cut_sheet_checks model s) _) ∙ z) in
      let q = passed 15 (ltb limits.log (length log)) _ (λ e. omega arith) p.1 in
      let r = passed 14 (not (eqb (bad_row (task_on model) log) 0)) _ (λ e. omega arith) q.1 in
      record {
        sheets = p.0;
        short = ltb-false limits.log (length log) q.0;
        fine = eqb-true (bad_row (task_on model) log) 0 (not-false _ r.0);
        places = ltb-false (length rows) (length log * 3) (passed 8 few.applies _ (λ e. omega arith) r.1).0;
      }

  -- ---- 14 is given for a row that is bad, in a log that is not too long: else no check that counts has that number
  abbrev long : Bool
  long = ltb limits.log (length log)

  abbrev others : List ℕ
  others = sheets_numbers ++ (15 ∷ 8 ∷ [])

  -- checks with other numbers in place of those of the log
  other : (cs : List Check) → Numbers (has others) cs → refusal (log_checks (task_on model) log ++ (few ∷ [])) ≡ refusal cs → refusal checks ≡ 14 → ⊥
  unfolding replay_checks
  other cs n same e =
      let m : Numbers (has others) (cut_sheet_checks model s ++ cs) =
      numbers-append (has others) sheets_numbers refl (cut_sheet_checks model s) cs (sheets-numbers model s) n in
      let g : not (eqb (refusal (cut_sheet_checks model s ++ cs)) 14) ≡ true = gives (λ k. not (eqb k 14)) others refl (cut_sheet_checks model s ++ cs) m in
      let q : refusal checks ≡ refusal (cut_sheet_checks model s ++ cs) =
      refusal-append (cut_sheet_checks model s) _ ∙ ap (λ (k : ℕ). refusal (cut_sheet_checks model s) then k) same
      ∙ sym (refusal-append (cut_sheet_checks model s) cs) in
      eqb-false _ 14 (not-true _ g) (sym q ∙ e)

  pub stopped-bad : refusal checks ≡ 14 → bad_row (task_on model) log ≡ 0 → ⊥
  unfolding log_checks refusal
  stopped-bad e z = other (check 15 long ∷ check 1 false ∷ few ∷ []) refl (rw (eq-eqb (bad_row (task_on model) log) 0 z)) e

  pub stopped-short : refusal checks ≡ 14 → length log ≤ limits.log
  unfolding log_checks refusal ◌then◌
  stopped-short e = split long refl
    where
      split : (b : Bool) → long ≡ b → length log ≤ limits.log
      split true h = absurd (other (check 15 true ∷ []) refl (rw h) e)
      split false h = ltb-false limits.log (length log) h

-- ---- replay
module _ (model s log : List ℕ) (rows : List ℤ) where
  pub replayer : Judged (λ (o : ReplayOutcome). number o.answer) (λ n. replay_outcome (refused (task_on model) log n) rows) (replay_checks model s log rows)
      (replay_outcome (Rows (length log)) (over (row_list (task_on model) (cuts_of s) log) rows)) (replaying model s log rows)
  unfolding replaying number
  replayer =
      let n = refusal (replay_checks model s log rows) in
      judges _ _ numbers refl (replay_checks model s log rows) (replay-numbers model s log rows) _ refl (refused-number (task_on model) log n)
