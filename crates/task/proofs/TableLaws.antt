-- What stands in a model's tables is what its task says.
use mathlib.Core.Path.{◌≡◌, ap, ◌∙◌}
use mathlib.Core.List.{List, [], ◌∷◌, ◌++◌}
use mathlib.Core.Option.{Option}
use Prim.Native.Nat.{ℕ, ◌+◌, ◌*◌, ◌<◌}
use native.Mathlib.Omega.{arith}
use native.Mathlib.Numerals.{add-one}
use lib.ListN.{length, get_or, take}
use lib.Seq.{take-suc}
use Rattle.task.specs.declared.Column.{Column}
use Rattle.task.specs.declared.Step.{Step}
use Rattle.task.specs.declared.Position.{Position}
use Rattle.std.specs.Prelude as maybe
use Rattle.task.specs.declared.Model.{Model}
use Rattle.task.specs.Loops.{all, tab}
use Rattle.task.specs.Task.{Task, ColumnEntry, StepEntry, Change, no_column, no_step, no_change, State, column, position, step, at, column_count, step_count, size_of, start_at, goal_at, cost_of, change_at, need_at, effect_at, each_column, per_column, meets, changed, can_take, taken, is_goal, costs}
use Rattle.task.specs.Tables.{marked, place_of, column_entry, change_entry, step_entry, task_of}
use Rattle.task.specs.Sizes.{limits}
use Rattle.task.proofs.LoopLaws.{all-ext, tab-at, tab-length, tab-ext}

module _ (m : Model) where
  pub columns-of : column_count (task_of m) ≡ m.columns
  unfolding column_count task_of
  columns-of = tab-length m.columns (column_entry m)

  pub steps_of : step_count (task_of m) ≡ m.steps
  unfolding step_count task_of
  steps_of = tab-length m.steps (step_entry m)

  column-of : (j : Column) → j.0 < m.columns → get_or (task_of m).columns j.0 no_column ≡ column_entry m j.0
  unfolding task_of
  column-of j h = tab-at m.columns (column_entry m) no_column j.0 h

  pub size-of : (j : Column) → j.0 < m.columns → size_of (task_of m) j ≡ get_or m.size j.0 0
  unfolding size_of column_entry no_column
  size-of j h = ap (λ (e : ColumnEntry). e.size) (column-of j h)

  pub start_of : (j : Column) → j.0 < m.columns → start_at (task_of m) j ≡ get_or m.start j.0 (position 0)
  unfolding start_at column_entry no_column
  start_of j h = ap (λ (e : ColumnEntry). e.start) (column-of j h)

  pub goal-of : (j : Column) → j.0 < m.columns → goal_at (task_of m) j ≡ marked (get_or m.goal j.0 maybe.None)
  unfolding goal_at column_entry no_column
  goal-of j h = ap (λ (e : ColumnEntry). e.goal) (column-of j h)

  step_of : (s : Step) → s.0 < m.steps → get_or (task_of m).steps s.0 no_step ≡ step_entry m s.0
  unfolding task_of
  step_of s h = tab-at m.steps (step_entry m) no_step s.0 h

  pub cost-of : (s : Step) → s.0 < m.steps → cost_of (task_of m) s ≡ get_or m.cost s.0 0
  unfolding cost_of step_entry no_step
  cost-of s h = ap (λ (e : StepEntry). e.cost) (step_of s h)

  change-of : (s : Step) (j : Column) → s.0 < m.steps → j.0 < m.columns → change_at (task_of m) s j ≡ change_entry m s.0 j.0
  unfolding change_at step_entry no_step
  change-of s j hs hj =
      ap (λ (e : StepEntry). get_or e.changes j.0 no_change) (step_of s hs) ∙ tab-at m.columns (change_entry m s.0) no_change j.0 hj

  pub need-of : (s : Step) (j : Column) → s.0 < m.steps → j.0 < m.columns → need_at (task_of m) s j ≡ marked (get_or m.need (place_of s.0 j.0) maybe.None)
  unfolding need_at change_entry
  need-of s j hs hj = ap (λ (c : Change). c.need) (change-of s j hs hj)

  pub effect_of : (s : Step) (j : Column) → s.0 < m.steps → j.0 < m.columns → effect_at (task_of m) s j ≡ marked (get_or m.effect (place_of s.0 j.0) maybe.None)
  unfolding effect_at change_entry
  effect_of s j hs hj = ap (λ (c : Change). c.effect) (change-of s j hs hj)

-- ---- the loops over a row of a table

-- the positions after the first n places of a row
unfoldable pub row_moved : List (maybe.Option Position) → ℕ → State → ℕ → Position
row_moved l place x j = changed (marked (get_or l (place + j) maybe.None)) (at x (column j))

module _ (m : Model) where
  pub can-take-row : (s : Step) (x : State) → s.0 < m.steps → can_take (task_of m) s x ≡ all m.columns (λ j. meets (marked (get_or m.need (place_of s.0 j) maybe.None)) (at x (column j)))
  unfolding can_take each_column
  can-take-row s x h = rw (columns-of m) (all-ext m.columns _ _ (λ j k. ap (λ (o : Option Position). meets o (at x (column j))) (need-of m s (column j) h k)))

  pub is-goal-row : (x : State) → is_goal (task_of m) x ≡ all m.columns (λ j. meets (marked (get_or m.goal j maybe.None)) (at x (column j)))
  unfolding is_goal each_column
  is-goal-row x = rw (columns-of m) (all-ext m.columns _ _ (λ j k. ap (λ (o : Option Position). meets o (at x (column j))) (goal-of m (column j) k)))

  pub taken-row : (s : Step) (x : State) → s.0 < m.steps → taken (task_of m) s x ≡ tab m.columns (row_moved m.effect (s.0 * limits.columns) x)
  unfolding taken per_column row_moved
  taken-row s x h =
      rw (columns-of m) (tab-ext m.columns _ _ (λ j k. ap (λ (o : Option Position). changed o (at x (column j))) (effect_of m s (column j) h k)))

-- ---- the cost of a list of steps
costs-append : (t : Task) (a b : List Step) → costs t (a ++ b) ≡ costs t a + costs t b
unfolding costs
costs-append t [] b = omega arith
costs-append t (s ∷ a) b = omega (arith, costs-append t a b)

pub costs-more : (t : Task) (l : List Step) (i : ℕ) → i < length l → costs t (take (i + 1) l) ≡ costs t (take i l) + cost_of t (get_or l i (step 0))
unfolding costs
costs-more t l i h =
    let e : take (i + 1) l ≡ take i l ++ (get_or l i (step 0) ∷ []) = rw (add-one, take-suc l i (step 0) h) in
    rw e (costs-append t (take i l) (get_or l i (step 0) ∷ []) ∙ omega arith)
