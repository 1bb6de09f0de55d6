-- What the code writes is the estimates.
use Prim.Native.Nat.{ℕ, ◌+◌, ◌*◌, ◌/◌, ◌%◌, ◌≤◌, ◌<◌}
use native.Mathlib.Omega.{arith}
use native.Mathlib.Nat.{mul-add-mod_self_right, mod-eq_of_lt, mod-lt}
use mathlib.Core.Path.{◌≡◌, refl, sym, ap, ◌∙◌, subst}
use mathlib.Core.Bool.{Bool, true, false, not, ◌||◌}
use mathlib.Core.List.{List}
use lib.Dec.{eqb, ltb}
use lib.ListN.{length, get_or, take}
use lib.Seq.{take-append_seam}
use borrow.Author.Tests.{ltb-true, ltb-false}
use Rattle.task.specs.Loops.{all, tab, over}
use Rattle.task.specs.Sizes.{limits, tenth}
use Rattle.task.specs.declared.Column.{Column}
use Rattle.task.specs.Task.{Task, State, Accepted, column, position, column_count, size_of, at, is_state}
use Rattle.task.proofs.LoopLaws.{all-at, tab-length, tab-at, tab-ext}
use Rattle.task.proofs.TaskLaws.{state-intro}
use Rattle.blocks.specs.Blocks.{accepted, blocks_of}
use Rattle.blocks.specs.Flat.{cuts_in, followed}
use Rattle.blocks.proofs.FollowLaws.{cut-columns, followed-take}
use Rattle.settling.specs.Coded.{coded_over}
use Rattle.settling.proofs.CostLaws.{cost-found}
use Rattle.asking.specs.Question.{place_in, state_in, wide_state, cost_found, states_in, bad_states, estimate_at, estimates_of}
use Rattle.asking.proofs.StateLaws.{state-room}

-- ---- states that are not bad
module _ (t : Task) (bytes : List ℕ) (good : bad_states t bytes ≡ false) where
  or-both : (a b c : Bool) → (not a || (b || not c)) ≡ false → (b ≡ false) × (c ≡ true)
  or-both true false true e = (refl, refl)
  or-both true false false e = let z : ◌≡◌ {A = ℕ} 0 1 = cc in absurd (omega arith)
  or-both true true c e = let z : ◌≡◌ {A = ℕ} 0 1 = cc in absurd (omega arith)
  or-both false b c e = let z : ◌≡◌ {A = ℕ} 0 1 = cc in absurd (omega arith)

  Fit : Bool
  Fit = all (length bytes) (λ i. ltb (get_or bytes i 0) (size_of t (column (i % column_count t))))

  parts : (ltb limits.states (states_in t bytes) ≡ false) × (Fit ≡ true)
  unfolding bad_states Fit
  parts = or-both (eqb (length bytes % column_count t) 0) (ltb limits.states (states_in t bytes)) Fit good

  pub few-states : states_in t bytes ≤ limits.states
  few-states = ltb-false limits.states (states_in t bytes) parts.0

  fitting : all (length bytes) (λ i. ltb (get_or bytes i 0) (size_of t (column (i % column_count t)))) ≡ true
  unfolding Fit
  fitting = parts.1

  -- every byte is a position
  pub byte_fits : Accepted t → (i : ℕ) → i < length bytes → get_or bytes i 0 < limits.positions
  byte_fits v i h =
      let n = column_count t in
      let j = i % column_count t in
      let z = v.sizes (column j) (mod-lt i v.columns.0) in
      omega (arith, z.1, ltb-true (get_or bytes i 0) (size_of t (column j)) (all-at (length bytes) (λ i. ltb (get_or bytes i 0) (size_of t (column (i % column_count t)))) fitting i h))

  pub state-good : (k : ℕ) → k < states_in t bytes → is_state t (state_in (column_count t) bytes k) ≡ true
  unfolding state_in states_in at place_in
  state-good k h = state-intro t _ (tab-length (column_count t) (place_in (column_count t) bytes k)) below
    where
      below : (j : Column) → j.0 < column_count t → (at (tab (column_count t) (place_in (column_count t) bytes k)) j).0 < size_of t j
      below j l =
          let i : ℕ = k * column_count t + j.0 in
          let m : i % column_count t ≡ j.0 = mul-add-mod_self_right k (column_count t) j.0 ∙ mod-eq_of_lt l in
          let f : get_or bytes i 0 < size_of t (column (i % column_count t)) = ltb-true _ _ (all-at (length bytes) _ fitting i (omega (arith, state-room (column_count t) k (length bytes) h))) in
          subst (λ p. p.0 < size_of t j) (sym (tab-at (column_count t) (place_in (column_count t) bytes k) (position 0) j.0 l)) (rw m at f)

-- ---- one estimate
module _ (t : Task) (v : Accepted t) (l : List ℕ) (count : ℕ) (ok : accepted t (cuts_in count l) ≡ true) (few : count < limits.blocks) where
  wide-front : (bytes : List ℕ) (k : ℕ) → take (column_count t) (wide_state (column_count t) bytes k) ≡ state_in (column_count t) bytes k
  unfolding wide_state over
  wide-front bytes k =
      let x = state_in (column_count t) bytes k in
      let e : length x ≡ column_count t = unfold state_in in tab-length (column_count t) (place_in (column_count t) bytes k) in
      subst (λ (m : ℕ). take m (wide_state (column_count t) bytes k) ≡ x) e (take-append_seam x _)

  pub estimate-found : (old dist : List ℕ) → dist ≡ coded_over t (blocks_of t (cuts_in count l)) (count + 1) old → (bytes : List ℕ) → bad_states t bytes ≡ false → (k : ℕ) → k < states_in t bytes
      → cost_found dist l count (wide_state (column_count t) bytes k) ≡ estimate_at t (cuts_in count l) bytes k
  unfolding cost_found estimate_at
  estimate-found old dist d bytes good k h =
      let n = column_count t in
      let x = wide_state n bytes k in
      let f : followed l x count ≡ followed l (state_in n bytes k) count =
      sym (followed-take l x n count (cut-columns t v l count ok)) ∙ ap (λ (y : State). followed l y count) (wide-front bytes k) in
      ap (λ (a : ℕ). get_or dist a 0 / tenth) f ∙ cost-found t v l count ok few old dist d (state_in n bytes k) (state-good t bytes good k h)

  -- and so all of them
  pub estimates-found : (old dist : List ℕ) → dist ≡ coded_over t (blocks_of t (cuts_in count l)) (count + 1) old → (bytes : List ℕ) → bad_states t bytes ≡ false
      → tab (states_in t bytes) (λ k. cost_found dist l count (wide_state (column_count t) bytes k)) ≡ estimates_of t (cuts_in count l) bytes
  unfolding estimates_of
  estimates-found old dist d bytes good = tab-ext (states_in t bytes) _ _ (λ k h. estimate-found old dist d bytes good k h)
