-- 02, order 7: what a list says that has the rows of a log, however its values are held: as they are, or as bytes. That a replay writes such rows is in
-- `RowsLaws`.
use Prim.Native.Nat.{ℕ, suc, ◌+◌, ◌*◌, ◌≤◌, ◌<◌}
use mathlib.Core.Path.{◌≡◌}
use mathlib.Core.Logic.{◌↔◌}
use mathlib.Core.Bool.{true}
use mathlib.Core.List.{List}
use mathlib.Core.Option.{some}
use lib.IntN.{ℤ, pos, neg_ℤ, ◌-ℤ◌}
use lib.ListN.{length, get_or}
use lib.Signed.{◌≤ℤ◌}
use Rattle.task.specs.Task.{Task, Tenths, cost_of, start, is_goal, costs}
use Rattle.blocks.specs.declared.Cut.{Cut}
use Rattle.distances.specs.Distances.{estimate}
use Rattle.replay.specs.Replay.{step_at, before, dashed, dash, row_values}
use Rattle.replay.specs.Sums.{sum_from}
use Rattle.replay.proofs.RowLaws.{largest}
use Rattle.replay.proofs.PlanLaws.{steps_of}

module _ (t : Task) (cs : List Cut) (log : List ℕ) (value : ℕ → ℤ) where
  -- value k of row i stands at place 3 i + k
  abbrev pub HasRows : Type 0
  HasRows = (i k : ℕ) → i < length log → k < 3 → value (i * 3 + k) ≡ get_or (row_values t cs log i) k (pos 0)

  -- ---- what such a list says

  -- the ground won of row i is shown as a dash
  abbrev pub Dash : ℕ → Type 0
  Dash i = value (i * 3 + 1) ≡ dash

  -- a row without a dash: ground won is the estimate before less the estimate after, and detour is paid less won
  pub record Figures (i : ℕ) : Type 0 where
    pub was : Tenths
    pub left : Tenths
    pub before-is : estimate t cs (before t log i) ≡ some was
    pub after_is : estimate t cs (before t log (suc i)) ≡ some left
    pub won-is : value (i * 3 + 1) ≡ pos was -ℤ pos left
    pub detour-is : value (i * 3 + 2) ≡ value (i * 3) -ℤ value (i * 3 + 1)
    -- no more than the largest distance either way
    pub low : neg_ℤ (pos largest) ≤ℤ value (i * 3 + 1)
    pub high : value (i * 3 + 1) ≤ℤ pos largest

  -- n rows from row i to before row j: the estimate before the first and after the last, and what their won figures add up to
  pub record Stretch (i n j : ℕ) : Type 0 where
    pub was : Tenths
    pub left : Tenths
    pub before-is : estimate t cs (before t log i) ≡ some was
    pub after_is : estimate t cs (before t log j) ≡ some left
    pub won-adds : sum_from (λ k. value (k * 3 + 1)) i n ≡ pos was -ℤ pos left

  -- a log that ends in a goal state has no dash; its detours add up to what it costs above the start's estimate, and where it costs just that it has none
  pub record GoalReached : Type 0 where
    pub no-dash : (i : ℕ) → i < length log → Dash i → ⊥
    pub detours-add : (e : Tenths) → estimate t cs (start t) ≡ some e → sum_from (λ k. value (k * 3 + 2)) 0 (length log) ≡ pos (costs t (steps_of log)) -ℤ pos e
    pub no-detour : estimate t cs (start t) ≡ some (costs t (steps_of log)) → (i : ℕ) → i < length log → value (i * 3 + 2) ≡ pos 0

  pub record RowsRight : Type 0 where
    -- the tenths paid
    pub paid-right : (i : ℕ) → i < length log → value (i * 3) ≡ pos (cost_of t (step_at log i))
    -- "A row whose state before or after has no way shows both figures as a dash, and so does every row after it."
    pub dash-exactly : (i : ℕ) → i < length log → Dash i ↔ (dashed t cs log i ≡ true)
    pub both-or-neither : (i : ℕ) → i < length log → Dash i ↔ (value (i * 3 + 2) ≡ dash)
    pub dash-stays : (i j : ℕ) → i ≤ j → j < length log → Dash i → Dash j
    pub figures-right : (i : ℕ) → i < length log → (Dash i → ⊥) → Figures i
    -- "detour is paid less won and is never below zero"
    pub never-below : (i : ℕ) → i < length log → pos 0 ≤ℤ value (i * 3 + 2)
    -- "Where rows have no dash, their won figures add up to the estimate before the first of them less the estimate after the last."
    pub stretch : (i n j : ℕ) → i + n ≡ j → i < j → j ≤ length log → ((k : ℕ) → i ≤ k → k < j → Dash k → ⊥) → Stretch i n j
    pub goal-reached : is_goal t (before t log (length log)) ≡ true → GoalReached
