-- A run for so many places of rows: the values it lists are put as rows.
use Prim.Native.Nat.{ℕ, min, zero, suc, ◌-◌, ◌*◌, ◌≤◌, ◌<◌}
use native.Mathlib.Nat.{not-suc-le-zero, le_of_suc-le-suc}
use native.Mathlib.Omega.{arith}
use mathlib.Core.Path.{◌≡◌, refl, sym, ap, ◌∙◌}
use mathlib.Core.Logic.{⊎_elim}
use mathlib.Core.Bool.{true, ◌&&◌}
use mathlib.Core.List.{List, [], ◌∷◌, ◌++◌, append_assoc}
use lib.Dec.{ltb}
use lib.ListN.{length, get_or, take, drop}
use borrow.Author.Tests.{eq-eqb, ne_eqb, ltb-true}
use Rattle.task.specs.declared.Step.{Step}
use Rattle.task.specs.Loops.{over}
use Rattle.task.specs.Sizes.{limits, most_steps, most_values}
use Rattle.task.specs.Task.{Task, State, step, step_count, can_take, taken, start, reaches, IsPlan}
use Rattle.task.proofs.LoopLaws.{and_left, and_right}
use Rattle.fields.specs.Judging.{refusal}
use Rattle.sheets.specs.Holding.{task_on}
use Rattle.run.specs.declared.Row.{Row}
use Rattle.run.specs.Run as run
use Rattle.run.specs.Run.{plan, no_plan, «open», rows, rows_of, block_count}
use Rattle.blocks.specs.declared.Cut.{Cut}
use Rattle.run.proofs.RunLaws.{Right}
use Rattle.run.proofs.RunRightLaws.{run-right}
use Rattle.run.specs.Listing.{listed, row_place}
use Rattle.running.specs.declared.Answer.{Answer}
use Rattle.fields.specs.Refusals.{Answered, Done, Refused}
use Rattle.running.specs.Running as running
use Rattle.running.specs.Running.{run_checks, returned}
use Rattle.running.proofs.RowLaws.{row-each}
use Rattle.running.specs.Counts.{row_count}
use Rattle.running.proofs.CountLaws as count
use Rattle.values.proofs.PlacesLaws.{part-long, missing-same}
use Rattle.rows.specs.Rows.{filling, row_checks, row_run, RowRuns}
use Rattle.rows.proofs.FillLaws.{listed-long, listed-put, nothing_put}

-- ---- a plan's rows each name a step
abbrev nobody : Row
nobody = record { step = step 0; tenths = 0; left = 0 }

module _ (t : Task) where
  known : (ss : List Step) (x : State) → reaches t x ss ≡ true → (i : ℕ) → i < length (rows t ss) → (get_or (rows t ss) i nobody).step.0 < step_count t
  unfolding reaches rows
  known [] x h i k = absurd (not-suc-le-zero k)
  known (s ∷ ss) x h zero k = ltb-true s.0 (step_count t) (and_left _ (can_take t s x) (and_left _ (reaches t (taken t s x) ss) h))
  known (s ∷ ss) x h (suc i) k = known ss (taken t s x) (and_right (ltb s.0 (step_count t) && can_take t s x) _ h) i (le_of_suc-le-suc k)

  rows-known : (room : ℕ) (cs : List Cut) (a : run.Answer) → Right t room cs a → (i : ℕ) → i < length (rows_of t a) → (get_or (rows_of t a) i nobody).step.0 < step_count t
  unfolding rows_of IsPlan
  rows-known room cs (plan ss) r i k = known ss (start t) r.plan i k
  rows-known room cs no_plan r i k = absurd (not-suc-le-zero k)
  rows-known room cs («open» e) r i k = absurd (not-suc-le-zero k)

  rows-counted : (b : ℕ) (a : run.Answer) → row_count (Done (returned t b a)) ≡ length (rows_of t a)
  unfolding returned row_count rows_of
  rows-counted b (plan ss) = sym (row-each t ss)
  rows-counted b no_plan = refl
  rows-counted b («open» e) = refl

-- ---- 8 is judged on the places lent
module _ (s : List ℕ) (room : ℕ) (cuts : List ℕ) (lent : List Row) (list : List ℕ) (l : length list ≡ min (length lent) most_steps * 3) where
  few-same : room ≤ limits.blocks → ltb (length (listed row_place lent)) ((room - 1) * 3) ≡ ltb (length list) ((room - 1) * 3)
  few-same h = missing-same (length lent) most_steps (room - 1) (length (listed row_place lent)) (length list) (omega arith) (omega (arith, listed-long lent)) l

  pub checks-same : refusal (row_checks s room cuts lent) ≡ refusal (run_checks s room cuts list)
  checks-same = count.lists-same s room cuts (listed row_place lent) cuts list (λ h. (refl, few-same h))

  module _ {a : Answered Answer} {c v : List ℕ} (e : running.Runs s room cuts list a c v) (vs : List ℕ) where
    abbrev t : Task
    t = task_on s

    abbrev o : run.Outcome
    o = run.run t room

    abbrev planned : List Row
    planned = rows_of t o.answer

    abbrev Told : Type 0
    Told = RowRuns s room cuts lent a c (filling lent (v ++ vs) (row_count a)).rows

    put : count.Ran s room cuts list a c v → (filling lent (v ++ vs) (row_count a)).rows ≡ over planned lent
    unfolding over
    put w =
        let xs = listed row_place planned in
        let ys = drop (length xs) list ++ vs in
        let k = ap row_count w.answer ∙ rows-counted t (block_count o) o.answer in
        let z : v ++ vs ≡ xs ++ ys = ap (λ (x : List ℕ). x ++ vs) w.row-list ∙ append_assoc xs (drop (length xs) list) vs in
        let many = (count.known s room cuts list e).rows_fit in
        let long = count.rows_long s room cuts list e w in
        let ok = count.accepted s room cuts list e w in
        let right = (run-right t ok room (count.fits s room cuts list e w).some).right in
        ap (λ (x : List ℕ). (filling lent x (row_count a)).rows) z
        ∙ ap (λ (n : ℕ). (filling lent (xs ++ ys) n).rows) k
        ∙ listed-put lent planned ys nobody (omega (arith, listed-long planned))
        (λ i h. omega (arith, rows-known t room o.made o.answer right i h, ok.steps))

    pub row_told : Told
    unfolding row_run row_count
    row_told = ⊎_elim yes-ran not-ran (count.ran-or-not s room cuts list e)
      where
        yes-ran : count.Ran s room cuts list a c v → Told
        yes-ran w = simp (eq-eqb (refusal (row_checks s room cuts lent)) 0 (checks-same ∙ w.ok)) (rw (put w, w.cut-list, w.answer) refl)

        not-ran : count.NotRan s room cuts list a c v → Told
        not-ran b =
            let z : a ≡ Refused (refusal (row_checks s room cuts lent)) = b.answer ∙ ap Refused (sym checks-same) in
            let y : (filling lent (v ++ vs) (row_count a)).rows ≡ lent = ap (λ (x : Answered Answer). (filling lent (v ++ vs) (row_count x)).rows) z ∙ nothing_put lent (v ++ vs) in
            simp (ne_eqb (refusal (row_checks s room cuts lent)) 0 (λ q. b.bad (sym checks-same ∙ q))) (rw (y, b.same-cuts, z) refl)

-- ---- the same with the first values of a list to work in
pub told-in : (s : List ℕ) (room places : ℕ) (cuts values : List ℕ) → length values ≡ most_values → {m : ℕ} → m ≡ min places most_steps → {a : Answered Answer} {c v : List ℕ}
    → running.Runs s room cuts (take (m * 3) values) a c v → (lent : List Row) → length lent ≡ places
    → RowRuns s room cuts lent a c (filling lent (v ++ drop (m * 3) values) (row_count a)).rows
told-in s room places cuts values h {m} p e lent q =
    let long = part-long (length lent) most_steps values h (p ∙ ap (λ (x : ℕ). min x most_steps) (sym q)) in
    row_told s room cuts lent (take (m * 3) values) long e (drop (m * 3) values)
