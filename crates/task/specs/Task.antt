-- 01, "The task": columns, positions, steps, states, plans.
-- A column, a position, a step and a block are named by the code's own wrappers, so that none of the four stands for another.
use Rattle.std.specs.Prelude.{Bool, true, ◌&&◌, List, [], ◌∷◌, ◌≡◌, ℕ, ◌+◌, ◌≤◌, ◌<◌, eqb, ltb, length}
use Rattle.std.proofs.Math.Option.{Option, none, some}
use Rattle.std.proofs.Math.ListN.{get_or}
use Rattle.task.specs.declared.Column.{Column}
use Rattle.task.specs.declared.Position.{Position}
use Rattle.task.specs.declared.Step.{Step}
use Rattle.task.specs.declared.Block.{Block}
use Rattle.task.specs.Loops.{all, tab, prod}
use Rattle.task.specs.Sizes.{limits, most_cost}

abbrev pub column : ℕ → Column
column n = record { 0 = n }

abbrev pub position : ℕ → Position
position n = record { 0 = n }

abbrev pub step : ℕ → Step
step n = record { 0 = n }

abbrev pub block : ℕ → Block
block n = record { 0 = n }

-- tenths of a minute
abbrev pub Tenths : Type 0
Tenths = ℕ

-- a column: how many positions it has, where it starts, and the position that the goal fixes, if it does
pub record ColumnEntry : Type 0 where
  pub size : ℕ
  pub start : Position
  pub goal : Option Position

-- what a step needs of one column, and its effect there
pub record Change : Type 0 where
  pub need : Option Position
  pub effect : Option Position

-- a step: what it costs, and a change for each column
pub record StepEntry : Type 0 where
  pub cost : Tenths
  pub changes : List Change

pub record Task : Type 0 where
  pub columns : List ColumnEntry
  pub steps : List StepEntry

unfoldable pub no_column : ColumnEntry
no_column = record { size = 1; start = position 0; goal = none }

unfoldable pub no_change : Change
no_change = record { need = none; effect = none }

unfoldable pub no_step : StepEntry
no_step = record { cost = 0; changes = [] }

module _ (t : Task) where
  unfoldable pub column_count : ℕ
  column_count = length t.columns

  unfoldable pub step_count : ℕ
  step_count = length t.steps

  unfoldable pub size_of : Column → ℕ
  unfolding no_column
  size_of j = (get_or t.columns j.0 no_column).size

  unfoldable pub start_at : Column → Position
  unfolding no_column
  start_at j = (get_or t.columns j.0 no_column).start

  unfoldable pub goal_at : Column → Option Position
  unfolding no_column
  goal_at j = (get_or t.columns j.0 no_column).goal

  unfoldable pub cost_of : Step → Tenths
  unfolding no_step
  cost_of s = (get_or t.steps s.0 no_step).cost

  unfoldable pub change_at : Step → Column → Change
  unfolding no_step
  change_at s j = get_or (get_or t.steps s.0 no_step).changes j.0 no_change

  unfoldable pub need_at : Step → Column → Option Position
  need_at s j = (change_at s j).need

  unfoldable pub effect_at : Step → Column → Option Position
  effect_at s j = (change_at s j).effect

  -- every column passes
  unfoldable pub each_column : (Column → Bool) → Bool
  each_column p = all column_count (λ j. p (column j))

  -- one entry for each column
  unfoldable pub per_column : {A : Type 0} → (Column → A) → List A
  per_column f = tab column_count (λ j. f (column j))

-- a state gives each column one position
abbrev pub State : Type 0
State = List Position

unfoldable pub at : State → Column → Position
at x j = get_or x j.0 (position 0)

-- a position meets a need or a goal, if there is one
unfoldable pub meets : Option Position → Position → Bool
meets none p = true
meets (some q) p = eqb q.0 p.0

-- a column with an effect has that position afterwards, the others keep theirs
unfoldable pub changed : Option Position → Position → Position
changed none p = p
changed (some e) p = e

module _ (t : Task) where
  unfoldable pub is_state : State → Bool
  is_state x = eqb (length x) (column_count t) && each_column t (λ j. ltb (at x j).0 (size_of t j))

  -- N, the number of states the columns allow
  unfoldable pub state_count : ℕ
  state_count = prod (column_count t) (λ j. size_of t (column j))

  unfoldable pub start : State
  start = per_column t (start_at t)

  -- a step can be taken in a state that meets every need
  unfoldable pub can_take : Step → State → Bool
  can_take s x = each_column t (λ j. meets (need_at t s j) (at x j))

  -- the state afterwards
  unfoldable pub taken : Step → State → State
  taken s x = per_column t (λ j. changed (effect_at t s j) (at x j))

  -- the goal fixes the position of some columns
  unfoldable pub is_goal : State → Bool
  is_goal x = each_column t (λ j. meets (goal_at t j) (at x j))

  -- each step can be taken in turn from x, ending in a goal state
  unfoldable pub reaches : State → List Step → Bool
  reaches x [] = is_goal x
  reaches x (s ∷ ss) = ltb s.0 (step_count t) && can_take s x && reaches (taken s x) ss

  unfoldable pub costs : List Step → Tenths
  costs [] = 0
  costs (s ∷ ss) = cost_of t s + costs ss

  -- a plan is a list of steps, each of which can be taken in turn from the start, ending in a goal state
  unfoldable pub IsPlan : List Step → Type 0
  IsPlan ss = reaches start ss ≡ true

-- what the sizes and the refusals 3, 4 and 5 leave
pub record Accepted (t : Task) : Type 0 where
  pub columns : (1 ≤ column_count t) × (column_count t ≤ limits.columns)
  pub steps : step_count t ≤ limits.steps
  pub sizes : (j : Column) → j.0 < column_count t → (1 ≤ size_of t j) × (size_of t j ≤ limits.positions)
  pub starts : (j : Column) → j.0 < column_count t → (start_at t j).0 < size_of t j
  pub goals : (j : Column) (p : Position) → j.0 < column_count t → goal_at t j ≡ some p → p.0 < size_of t j
  pub needs : (s : Step) (j : Column) (p : Position) → j.0 < column_count t → need_at t s j ≡ some p → p.0 < size_of t j
  pub effects : (s : Step) (j : Column) (p : Position) → j.0 < column_count t → effect_at t s j ≡ some p → p.0 < size_of t j
  pub tenths : (s : Step) → cost_of t s ≤ most_cost
