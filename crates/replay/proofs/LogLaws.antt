-- The rows of a log: which is the first that is unknown or cannot be taken, and that a log leads from state to state.
use Prim.Native.Nat.{ℕ, zero, suc, ◌+◌, ◌≤◌, ◌<◌}
use native.Mathlib.Omega.{arith}
use native.Mathlib.Decide.{dec_lt}
use mathlib.Core.Path.{◌≡◌, refl, sym, ◌∙◌}
use mathlib.Core.Logic.{◌⊎◌, inl, inr}
use mathlib.Core.Bool.{Bool, true, false, ◌&&◌, false≢true}
use mathlib.Core.List.{List}
use mathlib.Core.Option.{Option, none, some, get_or}
use lib.Dec.{ltb}
use lib.ListN.{length}
use borrow.Author.Tests.{ltb-true, ltb-false, not-true, not-false}
use Rattle.task.specs.Loops.{first, when}
use Rattle.task.specs.Task.{Task, Accepted, step_count, is_state, can_take}
use Rattle.task.proofs.LoopLaws.{and_left, and_right, first-none, first_some, when-some, when-none}
use Rattle.task.proofs.TaskLaws.{start-state, taken-state}
use Rattle.replay.specs.Replay.{step_at, before, bad_at, bad_row}

-- ---- states

-- a log leads from state to state
pub before-state : (t : Task) → Accepted t → (log : List ℕ) (i : ℕ) → is_state t (before t log i) ≡ true
unfolding before
before-state t v log zero = start-state t v
before-state t v log (suc i) = taken-state t v (step_at log i) (before t log i) (before-state t v log i)

module _ (t : Task) (log : List ℕ) where
  -- ---- what a row's test says

  -- its step is known and can be taken
  pub record GoodRow (i : ℕ) : Type 0 where
    pub known : (step_at log i).0 < step_count t
    pub can : can_take t (step_at log i) (before t log i) ≡ true

  pub good-row : (i : ℕ) → bad_at t log i ≡ false → GoodRow i
  unfolding bad_at
  good-row i h =
      let k : Bool = ltb (step_at log i).0 (step_count t) in
      let b : (k && can_take t (step_at log i) (before t log i)) ≡ true = not-false _ h in
      record { known = ltb-true _ _ (and_left k _ b); can = and_right k _ b }

  -- it is unknown, or it cannot be taken
  pub bad-row : (i : ℕ) → bad_at t log i ≡ true → (step_count t ≤ (step_at log i).0) ⊎ (can_take t (step_at log i) (before t log i) ≡ false)
  unfolding bad_at
  bad-row i h = split (ltb (step_at log i).0 (step_count t)) refl (not-true _ h)
    where
      split : (b : Bool) → ltb (step_at log i).0 (step_count t) ≡ b → (b && can_take t (step_at log i) (before t log i)) ≡ false
          → (step_count t ≤ (step_at log i).0) ⊎ (can_take t (step_at log i) (before t log i) ≡ false)
      split true e g = inr g
      split false e g = inl (ltb-false _ _ e)

  -- ---- the first bad row

  abbrev named : ℕ → Option ℕ
  named i = when (bad_at t log i) (i + 1)

  -- no row is bad
  pub bad-none : ((k : ℕ) → k < length log → bad_at t log k ≡ false) → bad_row t log ≡ 0
  unfolding bad_row
  bad-none h = go (first (length log) named) refl
    where
      go : (o : Option ℕ) → first (length log) named ≡ o → get_or o 0 ≡ 0
      go none e = refl
      go (some a) e =
          let r = first_some (length log) named e in
          absurd (false≢true (sym (h r.place r.below) ∙ (when-some (bad_at t log r.place) (r.place + 1) r.here).0))

  pub good-all : bad_row t log ≡ 0 → (i : ℕ) → i < length log → bad_at t log i ≡ false
  unfolding bad_row
  good-all z i l = go (first (length log) named) refl z
    where
      go : (o : Option ℕ) → first (length log) named ≡ o → get_or o 0 ≡ 0 → bad_at t log i ≡ false
      go none e q = when-none (bad_at t log i) (i + 1) (first-none (length log) named e i l)
      go (some a) e q =
          let r = first_some (length log) named e in
          absurd (omega (arith, (when-some (bad_at t log r.place) (r.place + 1) r.here).1, q))

  -- counted from 1, row n is bad, and none before it is
  pub record FirstBad (n : ℕ) : Type 0 where
    pub row : ℕ
    pub counted : n ≡ row + 1
    pub there : row < length log
    pub bad : bad_at t log row ≡ true
    pub earlier : (k : ℕ) → k < row → bad_at t log k ≡ false

  pub bad-first : (bad_row t log ≡ 0 → ⊥) → FirstBad (bad_row t log)
  unfolding bad_row
  bad-first z = go (first (length log) named) refl z
    where
      go : (o : Option ℕ) → first (length log) named ≡ o → (get_or o 0 ≡ 0 → ⊥) → FirstBad (get_or o 0)
      go none e q = absurd (q refl)
      go (some a) e q =
          let r = first_some (length log) named e in
          let w = when-some (bad_at t log r.place) (r.place + 1) r.here in
          record {
            row = r.place;
            counted = sym w.1;
            there = r.below;
            bad = w.0;
            earlier = λ k l. when-none (bad_at t log k) (k + 1) (r.before k l);
          }

  pub bad-here : (i : ℕ) → i < length log → ((k : ℕ) → k < i → bad_at t log k ≡ false) → bad_at t log i ≡ true → bad_row t log ≡ i + 1
  bad-here i l h b = let r = bad-first (λ z. false≢true (sym (good-all z i l) ∙ b)) in same r (dec_lt r.row i) (dec_lt i r.row)
    where
      same : (r : FirstBad (bad_row t log)) → Dec (r.row < i) → Dec (i < r.row) → bad_row t log ≡ i + 1
      same r (yes p) q = absurd (false≢true (sym (h r.row p) ∙ r.bad))
      same r (no p) (yes q) = absurd (false≢true (sym (r.earlier i q) ∙ b))
      same r (no p) (no q) = omega (arith, r.counted)
