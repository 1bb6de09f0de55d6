-- Laws for the code that replays a log: each refusal is the one that the definition gives, and what is left is the rows.
use Rattle.std.specs.Prelude.{Some, None}
use Rattle.along.specs.Along.{row_of}
use Prim.Native.Nat.{zero, suc, ℕ, ◌*◌, ◌≤◌, ◌<◌}
use native.Mathlib.Omega.{arith}
use mathlib.Core.Path.{◌≡◌, refl, sym, ap, ◌∙◌}
use mathlib.Core.Bool.{not, cond}
use mathlib.Core.List.{List, [], ◌∷◌, ◌++◌}
use lib.Dec.{eqb, ltb}
use lib.IntN.{ℤ}
use lib.ListN.{length}
use borrow.Author.Tests.{eq-eqb, ne_eqb, lt-ltb, le-ltb, eqb-false, not-true}
use Rattle.task.specs.Loops.{over}
use Rattle.task.specs.Sizes.{limits}
use Rattle.task.specs.Task.{Task}
use Rattle.fields.specs.Judging.{Check, check, refusal}
use Rattle.fields.proofs.JudgingLaws.{stop, go, applies, passes, no-checks, refusal-append, refused-is}
use Rattle.fields.proofs.ExactLaws.{gives}
use Rattle.sheets.specs.LentTables.{too_few}
use Rattle.sheets.specs.Holding.{task_on}
use Rattle.blocks.specs.declared.Cut.{Cut}
use Rattle.cut_sheets.specs.CutSheet.{tail_of, cut_sheet_checks, cuts_of}
use Rattle.cut_reading.specs.Rebuilding.{SheetJudged}
use Rattle.cut_reading.proofs.RebuildLaws.{sheets-ok}
use Rattle.cut_laws.proofs.Refusals.{sheets_numbers, sheets-numbers}
use Rattle.cutting.specs.declared.Blocks.{Blocks}
use Rattle.replay.specs.Replay.{Replayed, Rows, Stopped, Refused, bad_row, row_list, log_checks, replay_checks, refused, replay_outcome, replaying, Replays}
use Rattle.replaying.specs.Replaying.{Sheets, replayed_on}

-- a number other than 14 names no row
other : (t : Task) (log : List ℕ) (n : ℕ) → (n ≡ 14 → ⊥) → refused t log n ≡ Refused n
unfolding refused
other t log n z = rw (ne_eqb n 14 z)

-- ---- the sheets and the length of the log
module _ (m s log : List ℕ) (rows : List ℤ) where
  refusing : {r : ℕ} → r ≡ refusal (replay_checks m s log rows) → (r ≡ 0 → ⊥) → (r ≡ 14 → ⊥) → Replays m s log rows (Refused r) rows
  unfolding replaying
  refusing {r} e z n =
      ap (λ (a : Replayed). replay_outcome a rows) (sym (other (task_on m) log r n)) ∙ refused-is (λ n. replay_outcome (refused (task_on m) log n) rows) (replay_checks m s log rows) _ e z

  abbrev after : List Check
  after = log_checks (task_on m) log ++ (too_few (length log * 3) rows ∷ [])

  -- a refusal of the sheets, which is never 14
  pub sheets-refused : {r : ℕ} {exit : Blocks} → SheetJudged m s r exit → (r ≡ 0 → ⊥) → Replays m s log rows (Refused r) rows
  unfolding replay_checks
  sheets-refused {r} j z =
      refusing (j.refused ∙ sym (refusal-append (cut_sheet_checks m s) after ∙ stop (refusal (cut_sheet_checks m s)) _ (λ q. z (j.refused ∙ q)))) z
      (λ q. let g = gives (λ n. not (eqb n 14)) sheets_numbers refl (cut_sheet_checks m s) (sheets-numbers m s) in eqb-false r 14 (not-true _ (rw j.refused g)) q)

  module _ {exit : Blocks} (j : SheetJudged m s 0 exit) where
    left : refusal (replay_checks m s log rows) ≡ refusal after
    unfolding replay_checks
    left = refusal-append (cut_sheet_checks m s) after ∙ go (refusal (cut_sheet_checks m s)) _ (sym j.refused)

    pub long-refused : limits.log < length log → Replays m s log rows (Refused 15) rows
    unfolding log_checks
    long-refused h = refusing (applies 15 (ltb limits.log (length log)) _ (lt-ltb _ _ h) (λ q. omega arith) ∙ sym left) (λ q. omega arith) (λ q. omega arith)

    pub fine : Sheets m (tail_of s) exit
    fine = let k = sheets-ok m s [] j in record { model-fine = k.0; part-fine = k.2; made = j.made refl }

    -- what is left is the rest of the replay
    pub ends : length log ≤ limits.log → {a : Replayed} {next : List ℤ} → replay_outcome a next ≡ replayed_on (task_on m) (cuts_of s) log rows → Replays m s log rows a next
    unfolding replaying replayed_on log_checks
    ends h e =
        e
        ∙ ap (λ (n : ℕ). cond (eqb n 0) (replay_outcome (Rows (length log)) (over (row_list (task_on m) (cuts_of s) log) rows)) (replay_outcome (refused (task_on m) log n) rows))
        (passes 15 (ltb limits.log (length log)) _ (le-ltb _ _ h) refl ∙ sym left)

-- ---- the row that stops code, as a number
pub named : (n : ℕ) {row : ℕ} → Some row ≡ row_of n → (row ≡ n) × (row ≡ 0 → ⊥)
named zero e = cc
named (suc n) {row} e = let q : row ≡ suc n = cc in (q, λ z. omega (arith, q, z))

pub unnamed : (n : ℕ) → None ≡ row_of n → n ≡ 0
unnamed zero e = refl
unnamed (suc n) e = cc

-- ---- the log and the places
module _ (t : Task) (cs : List Cut) (log : List ℕ) (rows : List ℤ) where
  -- 14, with its row
  pub stopped : {bad : ℕ} → bad ≡ bad_row t log → (bad ≡ 0 → ⊥) → replay_outcome (Stopped bad) rows ≡ replayed_on t cs log rows
  unfolding replayed_on refused
  stopped {bad} e z =
      let a : 14 ≡ refusal (check 14 (not (eqb (bad_row t log) 0)) ∷ too_few (length log * 3) rows ∷ []) =
      applies 14 (not (eqb (bad_row t log) 0)) _ (ap not (ne_eqb (bad_row t log) 0 (λ q. z (e ∙ q)))) (λ q. omega arith) in
      rw (← a, e) refl

  module _ (good : bad_row t log ≡ 0) where
    pub few-refused : length rows < length log * 3 → replay_outcome (Refused 8) rows ≡ replayed_on t cs log rows
    unfolding replayed_on refused
    few-refused h =
        let a : 8 ≡ refusal (check 14 (not (eqb (bad_row t log) 0)) ∷ too_few (length log * 3) rows ∷ []) =
        passes 14 (not (eqb (bad_row t log) 0)) _ (ap not (eq-eqb (bad_row t log) 0 good)) (applies 8 (ltb (length rows) (length log * 3)) [] (lt-ltb _ _ h) (λ q. omega arith)) in
        rw (← a) refl

    pub done : length log * 3 ≤ length rows → {next : List ℤ} → next ≡ over (row_list t cs log) rows → replay_outcome (Rows (length log)) next ≡ replayed_on t cs log rows
    unfolding replayed_on
    done h e =
        let a : 0 ≡ refusal (check 14 (not (eqb (bad_row t log) 0)) ∷ too_few (length log * 3) rows ∷ []) =
        passes 14 (not (eqb (bad_row t log) 0)) _ (ap not (eq-eqb (bad_row t log) 0 good)) (passes 8 (ltb (length rows) (length log * 3)) [] (le-ltb _ _ h) no-checks) in
        rw (← a, e) refl
