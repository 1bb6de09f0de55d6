-- 02, order 7: what a replay that is done has written. First of any list that has the rows of a log, however its values are held: as they are, or as bytes;
-- then of the list that `replay` leaves, for whoever knows only its promise.
use Prim.Native.Nat.{ℕ, zero, suc, ◌+◌, ◌*◌, ◌≤◌, ◌<◌}
use native.Mathlib.Omega.{arith}
use native.Mathlib.Nat.{add-zero}
use mathlib.Core.Path.{◌≡◌, sym, ap, ◌∙◌, subst⁻¹}
use mathlib.Core.Logic.{◌↔◌, ⊎_elim}
use mathlib.Core.Bool.{true, false, false≢true}
use mathlib.Core.List.{List}
use lib.IntN.{ℤ, pos, neg_ℤ, nat_abs, ◌-ℤ◌}
use lib.ListN.{length, get_or, drop}
use lib.Seq.{drop-append_seam}
use lib.Signed.{◌≤ℤ◌}
use Rattle.task.specs.Loops.{over}
use Rattle.task.specs.Sizes.{limits}
use Rattle.task.specs.Task.{Task, Accepted, is_goal}
use Rattle.task.proofs.LoopLaws.{true-or-false}
use Rattle.fields.specs.Judging.{refusal}
use Rattle.blocks.specs.declared.Cut.{Cut}
use Rattle.blocks.specs.Blocks.{accepted}
use Rattle.sheets.specs.Holding.{task_on}
use Rattle.cut_sheets.specs.CutSheet.{cut_sheet_checks, cuts_of}
use Rattle.question_laws.proofs.Estimates.{model-accepted, cuts-accepted, few}
use Rattle.replay.specs.Replay.{before, bad_row, paid, far, dashed, won, detour, dash, figure, row_values, row_list}
use Rattle.replay.specs.Replay.{Rows, replay_checks, number, row_count, ReplayOutcome, replay_outcome, Replays}
use Rattle.replay.proofs.SignedLaws.{not-below, sum-ext}
use Rattle.replay.proofs.RowLaws as row
use Rattle.replay.proofs.RowLaws.{largest, tenths_at}
use Rattle.replay.proofs.PlanLaws as plan
use Rattle.replay.proofs.PlanLaws.{steps_of}
use Rattle.replay_laws.proofs.Refusals.{Passed, quiet, replayer}
use Rattle.replay_laws.proofs.Rows.{HasRows, Dash, Figures, Stretch, GoalReached, RowsRight}

-- ---- a list that has the rows of a log whose steps can be taken
module _ (t : Task) (v : Accepted t) (cs : List Cut) (ok : accepted t cs ≡ true) (small : length cs < limits.blocks) (log : List ℕ) (fine : bad_row t log ≡ 0)
    (value : ℕ → ℤ) (has : HasRows t cs log value) where
  paid-here : (i : ℕ) → i < length log → value (i * 3) ≡ pos (paid t log i)
  unfolding row_values
  paid-here i l = rw add-zero at (has i 0 l (omega arith))

  won-here : (i : ℕ) → i < length log → value (i * 3 + 1) ≡ figure (won t cs log i)
  unfolding row_values
  won-here i l = has i 1 l (omega arith)

  detour-here : (i : ℕ) → i < length log → value (i * 3 + 2) ≡ figure (detour t cs log i)
  unfolding row_values
  detour-here i l = has i 2 l (omega arith)

  module _ (i : ℕ) (l : i < length log) where
    abbrev D : Type 0
    D = Dash t cs log value i

    -- a fact of the row, whether it has a dash or not
    either : (P : Type 0) → (dashed t cs log i ≡ true → P) → (dashed t cs log i ≡ false → P) → P
    either P f g = ⊎_elim f g (true-or-false (dashed t cs log i))

    dash-is : D ↔ (dashed t cs log i ≡ true)
    dash-is = (
      λ e. either (dashed t cs log i ≡ true) (λ h. h) (λ h. absurd (row.won-no-dash t v cs ok log fine i l h small (sym (won-here i l) ∙ e))),
      λ h. won-here i l ∙ (row.both-dashes t cs log i h).0,
    )

    both : D ↔ (value (i * 3 + 2) ≡ dash)
    both = (
      λ e. detour-here i l ∙ (row.both-dashes t cs log i (dash-is.0 e)).1,
      λ e. either D (λ h. dash-is.1 h) (λ h. absurd (row.detour-no-dash t v cs ok log fine i l h small (sym (detour-here i l) ∙ e))),
    )

    shows : (D → ⊥) → dashed t cs log i ≡ false
    shows f = either (dashed t cs log i ≡ false) (λ h. absurd (f (dash-is.1 h))) (λ h. h)

    figures : (D → ⊥) → Figures t cs log value i
    unfolding far
    figures f =
        let h = shows f in
        let r = row.shown t cs log i h in
        let w : value (i * 3 + 1) ≡ pos (tenths_at t cs log i) -ℤ pos (tenths_at t cs log (suc i)) = won-here i l ∙ row.figure-won t cs log i h in
        record {
          was = tenths_at t cs log i;
          left = tenths_at t cs log (suc i);
          before-is = r.before-is;
          after_is = r.after_is;
          won-is = w;
          detour-is = detour-here i l ∙ row.figure-detour t cs log i h ∙ rw (paid-here i l, won-here i l);
          low = subst⁻¹ (λ (z : ℤ). neg_ℤ (pos largest) ≤ℤ z) w (row.won-low t v cs ok log fine i l h small);
          high = subst⁻¹ (λ (z : ℤ). z ≤ℤ pos largest) w (row.won-high t v cs ok log fine i l h small);
        }

    detour-not-below : pos 0 ≤ℤ value (i * 3 + 2)
    unfolding dash
    detour-not-below =
        either (pos 0 ≤ℤ value (i * 3 + 2))
        (λ h. subst⁻¹ (λ (z : ℤ). pos 0 ≤ℤ z) (detour-here i l ∙ (row.both-dashes t cs log i h).1) (not-below limits.no_way))
        (λ h. subst⁻¹ (λ (z : ℤ). pos 0 ≤ℤ z) (detour-here i l ∙ row.figure-is t v cs ok log fine i l h) (not-below _))

  adds : (i n j : ℕ) → i + n ≡ j → i < j → j ≤ length log → ((k : ℕ) → i ≤ k → k < j → Dash t cs log value k → ⊥) → Stretch t cs log value i n j
  unfolding far
  adds i n zero e l m f = absurd (omega arith)
  adds i n (suc j) e l m f =
      let g : (k : ℕ) → i ≤ k → k < suc j → dashed t cs log k ≡ false = λ k a b. shows k (omega arith) (f k a b) in
      record {
        was = tenths_at t cs log i;
        left = tenths_at t cs log (suc j);
        before-is = (row.shown t cs log i (g i (omega arith) l)).before-is;
        after_is = (row.shown t cs log j (g j (omega arith) (omega arith))).after_is;
        won-adds =
            sum-ext (λ k. value (k * 3 + 1)) (λ k. figure (won t cs log k)) n i (λ k a b. won-here k (omega arith))
            ∙ row.won-adds t cs log i n (suc j) e g;
      }

  reached : is_goal t (before t log (length log)) ≡ true → GoalReached t cs log value
  reached goal =
      record {
        no-dash = λ i l e. false≢true (sym (plan.no-dashes t v cs ok log fine goal i l) ∙ (dash-is i l).0 e);
        detours-add = λ e q.
            sum-ext (λ k. value (k * 3 + 2)) (λ k. figure (detour t cs log k)) (length log) 0 (λ k a b. detour-here k (omega arith))
            ∙ plan.detours-total t v cs ok log fine goal q;
        no-detour = λ q i l. detour-here i l ∙ plan.exact-no-detour t v cs ok log fine goal q i l;
      }

  pub rows_right : RowsRight t cs log value
  unfolding paid
  rows_right =
      record {
        paid-right = paid-here;
        dash-exactly = dash-is;
        both-or-neither = both;
        dash-stays = λ i j l h e. (dash-is j h).1 (row.dash-stays t cs log i j l ((dash-is i (omega arith)).0 e));
        figures-right = figures;
        never-below = detour-not-below;
        stretch = adds;
        goal-reached = reached;
      }

-- the same by the sheets that hold the model and the cuts
module _ (model s log : List ℕ) (sheets : refusal (cut_sheet_checks model s) ≡ 0) (fine : bad_row (task_on model) log ≡ 0) where
  pub sheet-rows-right : (value : ℕ → ℤ) → HasRows (task_on model) (cuts_of s) log value → RowsRight (task_on model) (cuts_of s) log value
  sheet-rows-right value has =
      rows_right (task_on model) (model-accepted model s sheets) (cuts_of s) (cuts-accepted model s sheets) (few model s sheets) log fine value has

  -- and no value is further from zero than the mark for a dash
  pub sheet-rows-small : (i k : ℕ) → i < length log → nat_abs (get_or (row_values (task_on model) (cuts_of s) log i) k (pos 0)) ≤ limits.no_way
  sheet-rows-small i k l =
      row.value-small (task_on model) (model-accepted model s sheets) (cuts_of s) (cuts-accepted model s sheets) log fine (few model s sheets) i l k

-- ---- a replay that was done
module _ (model s log : List ℕ) (rows : List ℤ) {n : ℕ} {next : List ℤ} (done : Replays model s log rows (Rows n) next) where
  abbrev t : Task
  t = task_on model

  told : refusal (replay_checks model s log rows) ≡ 0
  unfolding number
  told = sym (replayer model s log rows).told ∙ ap (λ (o : ReplayOutcome). number o.answer) (sym done)

  pub checked : Passed model s log rows
  checked = quiet model s log rows told

  whole : replay_outcome (Rows n) next ≡ replay_outcome (Rows (length log)) (over (row_list t (cuts_of s) log) rows)
  unfolding number
  whole = done ∙ (replayer model s log rows).done ((replayer model s log rows).told ∙ told)

  -- one row for each step
  pub every-row : n ≡ length log
  unfolding row_count
  every-row = ap (λ (o : ReplayOutcome). row_count o.answer) whole

  pub rows_written : next ≡ over (row_list t (cuts_of s) log) rows
  rows_written = ap (λ (o : ReplayOutcome). o.rows) whole

  -- the value of each place
  pub rows-there : HasRows t (cuts_of s) log (λ k. get_or next k (pos 0))
  rows-there i k l h = ap (λ (x : List ℤ). get_or x (i * 3 + k) (pos 0)) rows_written ∙ row.written_at t (cuts_of s) log rows i k l h

  pub written-right : RowsRight t (cuts_of s) log (λ k. get_or next k (pos 0))
  written-right = sheet-rows-right model s log checked.sheets checked.fine (λ k. get_or next k (pos 0)) rows-there

  -- places past the last row are as found
  pub past-rows : drop (n * 3) next ≡ drop (n * 3) rows
  unfolding over
  past-rows =
      let e : n * 3 ≡ length (row_list t (cuts_of s) log) = omega (arith, every-row, row.rows-length t (cuts_of s) log) in
      rw (e, rows_written) (drop-append_seam (row_list t (cuts_of s) log) _)
