-- Laws for the code that judges states.
use Prim.Native.Nat.{ℕ, suc, ◌+◌, ◌*◌, ◌/◌, ◌%◌, ◌≤◌, ◌<◌}
use native.Mathlib.Omega.{arith}
use native.Mathlib.Nat.{mod-lt, suc-mul, mul-le-mul, le_refl, div-mul-le_self}
use mathlib.Core.Path.{◌≡◌, refl, sym, ap, ◌∙◌, subst}
use mathlib.Core.Bool.{Bool, true, false, false≢true, not, ◌||◌, cond}
use mathlib.Core.Logic.{◌↔◌, ⊎_elim}
use Rattle.std.specs.Prelude.{IsTrue, EachIndex}
use mathlib.Core.List.{List}
use lib.Dec.{eqb, ltb}
use Rattle.std.proofs.Common.{get_or-take, get_or-drop}
use lib.ListN.{length, get_or, take, drop}
use borrow.Author.Tests.{lt-ltb, le-ltb, ltb-true, eq-eqb, ne_eqb}
use Rattle.task.specs.Loops.{all, over}
use Rattle.task.specs.Sizes.{limits}
use Rattle.sheets.specs.Holding.{unused}
use Rattle.task.specs.Task.{Task, State, position, column, size_of}
use Rattle.task.proofs.LoopLaws.{all-at, all-ext, all-intro, over-at, tab-ext, true-or-false}
use Rattle.asking.specs.Posing.{SizesOf}
use Rattle.asking.specs.Question.{bad_states, states_in, place_in, state_in, wide_state, cost_found}

-- what is found for state k
abbrev pub cost_at : ℕ → ℕ → List ℕ → List ℕ → List ℕ → ℕ → ℕ
cost_at columns count cuts dist states k = cost_found dist cuts count (wide_state columns states k)

module _ (sizes bytes : List ℕ) where
  abbrev n : ℕ
  n = length sizes

  -- each byte is a position of its column
  abbrev Fit : ℕ → Bool
  Fit i = ltb (get_or bytes i 0) (get_or sizes (i % n) 0)

  -- bad by a table of sizes
  unfoldable pub bad_by : Bool
  bad_by = not (eqb (length bytes % n) 0) || (ltb limits.states (length bytes / n) || not (all (length bytes) Fit))

  -- what code finds
  pub fits_is : (r : Bool) → IsTrue r ↔ EachIndex bytes (λ i. get_or bytes i 0 < get_or sizes (i % n) 0) → all (length bytes) Fit ≡ r
  fits_is true h = all-intro (length bytes) Fit (λ i l. lt-ltb _ _ (h.0 refl i l))
  fits_is false h = ⊎_elim (λ e. absurd (false≢true (h.1 (λ i l. ltb-true _ _ (all-at (length bytes) Fit e i l))))) (λ e. e) (true-or-false (all (length bytes) Fit))

  -- a task of these sizes
  pub bad-said : 1 ≤ n → (t : Task) → SizesOf t sizes → bad_by ≡ bad_states t bytes
  unfolding bad_by bad_states states_in
  bad-said pos t s =
      ap (λ a. not (eqb (length bytes % n) 0) || (ltb limits.states (length bytes / n) || not a)) same
      ∙ sym (ap (λ m. not (eqb (length bytes % m) 0) || (ltb limits.states (length bytes / m) || not (all (length bytes) (λ i. ltb (get_or bytes i 0) (size_of t (column (i % m))))))) s.0)
    where
      same : all (length bytes) Fit ≡ all (length bytes) (λ i. ltb (get_or bytes i 0) (size_of t (column (i % n))))
      same = all-ext (length bytes) _ _ (λ i h. ap (ltb (get_or bytes i 0)) (sym (s.1 (i % n) (mod-lt i pos))))

  pub uneven : (length bytes % n ≡ 0 → ⊥) → bad_by ≡ true
  unfolding bad_by
  uneven h = rw (ne_eqb (length bytes % n) 0 h)

  or-true : (a : Bool) {b : Bool} → b ≡ true → (a || b) ≡ true
  or-true true e = refl
  or-true false e = e

  pub too-many : limits.states < length bytes / n → bad_by ≡ true
  unfolding bad_by
  too-many h = or-true (not (eqb (length bytes % n) 0)) (rw (lt-ltb limits.states (length bytes / n) h))

  pub no-position : all (length bytes) Fit ≡ false → bad_by ≡ true
  unfolding bad_by
  no-position e = or-true (not (eqb (length bytes % n) 0)) (or-true (ltb limits.states (length bytes / n)) (ap not e))

  pub all-good : length bytes % n ≡ 0 → length bytes / n ≤ limits.states → all (length bytes) Fit ≡ true → bad_by ≡ false
  unfolding bad_by
  all-good e l h = rw (eq-eqb (length bytes % n) 0 e) (rw (le-ltb limits.states (length bytes / n) l) (ap not h))

  -- what the code answers, for every task of these sizes
  pub answers : 1 ≤ n → {b : Bool} → bad_by ≡ b → (t : Task) → SizesOf t sizes → ◌≡◌ {A = ℕ} (cond b 11 0) (cond (bad_states t bytes) 11 0)
  answers pos e t s = ap (λ x. cond x 11 0) (sym e ∙ bad-said pos t s)

-- a state that is asked about lies within the bytes
pub state-room : (n k len : ℕ) → k < len / n → k * n + n ≤ len
state-room n k len h = omega (arith, suc-mul k n, mul-le-mul {n₁ = suc k} {m₁ = n} {n₂ = len / n} {m₂ = n} h (le_refl n), div-mul-le_self len n)

-- the positions of a state are the bytes
pub wide-small : (n : ℕ) (bytes : List ℕ) (k : ℕ) → k * n + n ≤ length bytes → ((i : ℕ) → i < length bytes → get_or bytes i 0 < limits.positions) → (j : ℕ) → j < n → (get_or (wide_state n bytes k) j (position 0)).0 < limits.positions
unfolding wide_state state_in place_in
wide-small n bytes k w h j l = subst (λ p. p.0 < limits.positions) (sym (over-at n (place_in n bytes k) _ (position 0) j l)) (h (k * n + j) (omega arith))

-- a state read from its part of the bytes
pub state-read : (n : ℕ) (bytes : List ℕ) (k : ℕ) {part : List ℕ} → part ≡ take n (drop (k * n) bytes) → length part ≡ n → wide_state (length part) part 0 ≡ wide_state n bytes k
unfolding wide_state state_in place_in
state-read n bytes k {part} e l =
    ap (λ (m : ℕ). wide_state m part 0) l
    ∙ ap (λ (x : State). over x (unused limits.columns (position 0))) (tab-ext n _ _ same)
  where
    same : (j : ℕ) → j < n → place_in n part 0 j ≡ place_in n bytes k j
    same j h = let z : 0 * n + j < n = omega (arith, h) in rw e (ap position (rw (get_or-take, get_or-drop) (ap (λ i. get_or bytes i 0) (omega arith))))
