-- A log that ends in a goal state is a plan: none of its rows has a dash, and its detours add up to what it costs above the start's estimate.
use Prim.Native.Nat.{ℕ, zero, suc, ◌+◌, ◌≤◌, ◌<◌}
use native.Mathlib.Omega.{arith}
use mathlib.Core.Path.{◌≡◌, sym, ap, ◌∙◌}
use mathlib.Core.Bool.{true, false, not}
use mathlib.Core.List.{List, [], ◌∷◌, map}
use mathlib.Core.Option.{none, Option, some, get_or}
use lib.IntN.{ℤ, pos, ◌+ℤ◌, ◌-ℤ◌, +ℤ_idr, +ℤ_invr}
use lib.ListN.{length, drop, drop_of_length-le}
use lib.Seq.{drop-cons}
use borrow.Author.Tests.{lt-ltb}
use Rattle.task.specs.declared.Step.{Step}
use Rattle.task.specs.Task.{Task, Tenths, Accepted, step, start, is_goal, reaches, costs, IsPlan}
use Rattle.task.proofs.LoopLaws.{and_both, all-at, all-intro}
use Rattle.task.proofs.TaskLaws.{first_step}
use Rattle.blocks.specs.declared.Cut.{Cut}
use Rattle.blocks.specs.Blocks.{accepted}
use Rattle.distances.specs.Distances.{NoMore, number, estimate}
use Rattle.distances.proofs.EstimateLaws.{estimate-below}
use Rattle.replay.specs.Replay.{step_at, before, bad_at, bad_row, paid, has_way, far, on_way, dashed, detour, figure}
use Rattle.replay.specs.Sums.{sum_from}
use Rattle.replay.proofs.SignedLaws.{not-below, sum-zero}
use Rattle.replay.proofs.LogLaws.{before-state, good-all, good-row, bad-none}
use Rattle.replay.proofs.RowLaws.{tenths_at, ways-back, detours-add, figure-is}

none_left : (o : Option Tenths) → NoMore o (some 0) → o ≡ some 0
none_left none x' = elim x' [ ]
none_left (some a) (number h) = let e : a ≡ 0 = omega arith in ap some e

-- the steps of a log
abbrev pub steps_of : List ℕ → List Step
steps_of log = map step log

module _ (t : Task) (log : List ℕ) where
  -- those from row i on
  abbrev rest : ℕ → List Step
  rest i = map step (drop i log)

  next : (i : ℕ) → i < length log → rest i ≡ step_at log i ∷ rest (suc i)
  unfolding step_at
  next i l = ap (map step) (drop-cons log i 0 l)

  ended : (i : ℕ) → length log ≤ i → rest i ≡ []
  ended i l = ap (map step) (drop_of_length-le log l)

  -- what is paid from row i on is what its steps cost
  pub paid-adds : (n i : ℕ) → i + n ≡ length log → sum_from (λ k. pos (paid t log k)) i n ≡ pos (costs t (rest i))
  unfolding sum_from costs paid
  paid-adds zero i e = sym (ap (λ (ss : List Step). pos (costs t ss)) (ended i (omega arith)))
  paid-adds (suc n) i e =
      ap (λ (x : ℤ). pos (paid t log i) +ℤ x) (paid-adds n (suc i) (omega arith)) ∙ sym (ap (λ (ss : List Step). pos (costs t ss)) (next i (omega arith)))

  -- ---- plans

  plan-from : reaches t (start t) (steps_of log) ≡ true → (i : ℕ) → i ≤ length log → reaches t (before t log i) (rest i) ≡ true
  unfolding before
  plan-from h zero l = h
  plan-from h (suc i) l = (first_step t (before t log i) (step_at log i) (rest (suc i)) (rw (next i l) at (plan-from h i (omega arith)))).rest

  -- a plan's steps can be taken in turn, and its end is a goal state
  pub plan-fine : IsPlan t (steps_of log) → bad_row t log ≡ 0
  unfolding IsPlan bad_at
  plan-fine h =
      bad-none t log
      (λ i l.
      let f = first_step t (before t log i) (step_at log i) (rest (suc i)) (rw (next i l) at (plan-from h i (omega arith))) in
      ap not (and_both (lt-ltb _ _ f.known) f.can))

  pub plan-goal : IsPlan t (steps_of log) → is_goal t (before t log (length log)) ≡ true
  unfolding IsPlan reaches
  plan-goal h = rw (ended (length log) (omega arith)) at (plan-from h (length log) (omega arith))

  -- and the other way
  module _ (fine : bad_row t log ≡ 0) (goal : is_goal t (before t log (length log)) ≡ true) where
    good-from : (n i : ℕ) → i + n ≡ length log → reaches t (before t log i) (rest i) ≡ true
    unfolding reaches before
    good-from zero i e = let q : i ≡ length log = omega arith in rw (ended i (omega arith)) (ap (λ (k : ℕ). is_goal t (before t log k)) q ∙ goal)
    good-from (suc n) i e =
        let g = good-row t log i (good-all t log fine i (omega arith)) in
        rw (next i (omega arith)) (and_both (and_both (lt-ltb _ _ g.known) g.can) (good-from n (suc i) (omega arith)))

    pub goal-plan : IsPlan t (steps_of log)
    unfolding IsPlan before
    goal-plan = good-from (length log) 0 (omega arith)

-- ---- a log that ends in a goal state
module _ (t : Task) (v : Accepted t) (cs : List Cut) (ok : accepted t cs ≡ true) (log : List ℕ) (fine : bad_row t log ≡ 0)
    (goal : is_goal t (before t log (length log)) ≡ true) where
  -- nothing is left at its end
  pub end-zero : far t cs log (length log) ≡ some 0
  unfolding far reaches costs
  end-zero = none_left (far t cs log (length log)) (estimate-below t v cs ok [] (before t log (length log)) (before-state t v log (length log)) goal)

  pub no-dashes : (i : ℕ) → i < length log → dashed t cs log i ≡ false
  unfolding dashed has_way
  no-dashes i l =
      let w = ways-back t v cs ok log fine (length log) (omega arith) (ap has_way end-zero) in
      ap not (all-intro (suc i) (on_way t cs log) (λ j k. all-at (length log) (on_way t cs log) w j (omega arith)))

  end-tenths : tenths_at t cs log (length log) ≡ 0
  end-tenths = ap (λ (o : Option Tenths). get_or o 0) end-zero

  -- what it costs less the start's estimate
  pub detours-total : {e : Tenths} → estimate t cs (start t) ≡ some e
      → sum_from (λ k. figure (detour t cs log k)) 0 (length log) ≡ pos (costs t (steps_of log)) -ℤ pos e
  unfolding far before
  detours-total {e} q =
      let a : tenths_at t cs log 0 ≡ e = ap (λ (o : Option Tenths). get_or o 0) q in
      detours-add t cs log 0 (length log) (length log) (omega arith) (λ k b l. no-dashes k l)
      ∙ ap (λ (x : ℤ). x -ℤ (pos (tenths_at t cs log 0) -ℤ pos (tenths_at t cs log (length log)))) (paid-adds t log (length log) 0 (omega arith))
      ∙ ap (λ (x : Tenths). pos (costs t (steps_of log)) -ℤ (pos (tenths_at t cs log 0) -ℤ pos x)) end-tenths
      ∙ ap (λ (x : ℤ). pos (costs t (steps_of log)) -ℤ x) (+ℤ_idr (pos (tenths_at t cs log 0)))
      ∙ ap (λ (x : Tenths). pos (costs t (steps_of log)) -ℤ pos x) a

  -- a plan that costs the start's estimate has no detour
  pub exact-no-detour : estimate t cs (start t) ≡ some (costs t (steps_of log)) → (i : ℕ) → i < length log → figure (detour t cs log i) ≡ pos 0
  exact-no-detour q i l =
      sum-zero (λ k. figure (detour t cs log k)) (length log) 0
      (λ k a b. rw (figure-is t v cs ok log fine k (omega arith) (no-dashes k (omega arith))) (not-below _))
      (detours-total q ∙ +ℤ_invr (pos (costs t (steps_of log)))) i (omega arith) (omega arith)
