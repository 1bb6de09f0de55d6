-- 02, order 7: where a replay has stopped, and the signed values that a C program takes from its bytes. What is said of them of `replay` and of
-- `elhavir_replay` is in `ReplayRows`.
use Prim.Native.Nat.{ℕ, suc, ◌+◌, ◌-◌, ◌^◌, ◌≤◌, ◌<◌}
use native.Mathlib.Omega.{arith}
use mathlib.Core.Path.{◌≡◌, ap, ◌∙◌}
use mathlib.Core.Logic.{◌⊎◌}
use mathlib.Core.Bool.{Bool, false, cond}
use mathlib.Core.List.{List}
use lib.Dec.{ltb}
use lib.IntN.{ℤ, pos, negsuc, nat_abs, ◌-ℤ◌}
use lib.ListN.{length}
use borrow.Author.Tests.{lt-ltb, le-ltb}
use Rattle.task.specs.Task.{Task, step_count, can_take}
use Rattle.values.specs.Values.{value_on, twos}
use Rattle.replay.specs.Replay.{step_at, before, bad_row}
use Rattle.replay.proofs.SignedLaws.{below}
use Rattle.replay.proofs.LogLaws.{GoodRow, good-row, bad-row, bad-first}

-- ---- "an unknown step or one that cannot be taken is the new 14, with the first such row, counted from 1": every step before it can be taken
pub record StoppedAt (t : Task) (log : List ℕ) (n : ℕ) : Type 0 where
  pub row : ℕ
  pub counted : n ≡ row + 1
  pub there : row < length log
  pub bad : (step_count t ≤ (step_at log row).0) ⊎ (can_take t (step_at log row) (before t log row) ≡ false)
  pub earlier : (k : ℕ) → k < row → GoodRow t log k

pub stopped-at : (t : Task) (log : List ℕ) → (bad_row t log ≡ 0 → ⊥) → StoppedAt t log (bad_row t log)
stopped-at t log z =
    let f = bad-first t log z in
    record { row = f.row; counted = f.counted; there = f.there; bad = bad-row t log f.row f.bad; earlier = λ k l. good-row t log k (f.earlier k l) }

-- ---- signed values, as a C program takes them from the bytes: below 2^31 the value itself, else less 2^32

abbrev pub signed : ℕ → ℤ
signed v = cond (ltb v (2 ^ 31)) (pos v) (pos v -ℤ pos (2 ^ 32))

abbrev pub signed_on : List ℕ → ℕ → ℤ
signed_on bytes k = signed (value_on bytes k)

module _ (high low : ℤ) where
  picked : (v : ℕ) → v < 2 ^ 31 → cond (ltb v (2 ^ 31)) high low ≡ high
  picked v h = ap (λ (b : Bool). cond b high low) (lt-ltb v (2 ^ 31) h)

  passed_over : (v : ℕ) → 2 ^ 31 ≤ v → cond (ltb v (2 ^ 31)) high low ≡ low
  passed_over v h = ap (λ (b : Bool). cond b high low) (le-ltb v (2 ^ 31) h)

-- a value's two's complement gives it back
pub signed_back : (z : ℤ) → nat_abs z < 2 ^ 31 → signed (twos z) ≡ z
unfolding twos
signed_back (pos n) h = picked (pos n) _ n h
signed_back (negsuc n) h =
    let v : ℕ = 2 ^ 32 - suc n in
    let e : 2 ^ 32 - suc v ≡ n = omega arith in
    passed_over (pos v) (pos v -ℤ pos (2 ^ 32)) v (omega arith) ∙ below v (2 ^ 32) (omega arith) ∙ ap negsuc e

pub twos-low : (z : ℤ) → nat_abs z < 2 ^ 31 → twos z < 2 ^ 32
unfolding twos
twos-low (pos n) h = omega arith
twos-low (negsuc n) h = omega arith
