-- Needs, landings and goals as sets of positions, and the tests of 01 on such sets.
use Rattle.std.specs.Prelude.{Bool, ◌&&◌, not, cond, List, ◌≡◌, ℕ, ◌-◌, ◌<◌, eqb, ltb, get_or, drop}
use Rattle.std.specs.Prelude as maybe
use Rattle.std.specs.Option.{option_or}
use Rattle.std.proofs.Math.Option.{Option, none, some}
use Rattle.task.specs.declared.Column.{Column}
use Rattle.task.specs.declared.Position.{Position}
use Rattle.task.specs.declared.Step.{Step}
use Rattle.task.specs.declared.Model.{Model}
use Rattle.task.specs.Loops.{all}
use Rattle.task.specs.Sizes.{limits, step_places, lands_row, goal_row, start_row}
use Rattle.task.specs.Task.{Task, State, position, at, column_count, step_count, cost_of, need_at, effect_at, goal_at}
use Rattle.blocks.specs.Blocks.{PositionSet, only, common, without, is_empty}
use Rattle.blocks.specs.Flat.{past, row_of, laid}

-- a need or a goal as a set: its position, nothing where there is none
unfoldable pub wants : Option Position → PositionSet
wants none = 0
wants (some p) = only p

-- where a step lands: the effect, or else the need; nothing where it keeps the column
unfoldable pub landing : Option Position → Option Position → PositionSet
landing n none = wants n
landing n (some e) = only e

-- every position of w lies in a
unfoldable pub lies : PositionSet → PositionSet → Bool
lies w a = eqb (common a w) w

-- the n sets from place i of xs on lie in those from place k of ys on, each in its own
unfoldable pub all_lie : ℕ → ℕ → ℕ → List PositionSet → List PositionSet → Bool
all_lie n i k xs ys = all n (λ j. lies (past xs i j) (past ys k j))

-- one column, by its sets: the need lies in a, the landing in b, and where the step keeps the column the two meet
unfoldable pub passes : PositionSet → PositionSet → PositionSet → PositionSet → Bool
passes need land a b = lies need a && lies land b && not (is_empty land && is_empty (common a b))

-- a set that may be cut off: a non-empty proper part of the old one
unfoldable pub parts : PositionSet → PositionSet → Bool
parts wanted old = not (is_empty wanted) && is_empty (without wanted old) && not (is_empty (without old wanted))

-- ---- the tables of a model

-- a need or a goal as code has it, as a set; a position that no column has wants nothing
unfoldable pub set_of : maybe.Option Position → PositionSet
set_of maybe.None = 0
set_of (maybe.Some p) = cond (ltb p.0 limits.positions) (only p) 0

unfoldable pub land_set : maybe.Option Position → maybe.Option Position → PositionSet
land_set n e = set_of (option_or e n)

-- what a list of needs or a goal wants, place by place
unfoldable pub want_set : List (maybe.Option Position) → ℕ → PositionSet
want_set l i = set_of (get_or l i maybe.None)

module _ (m : Model) where
  unfoldable pub lands_set : ℕ → PositionSet
  lands_set i = land_set (get_or m.need i maybe.None) (get_or m.effect i maybe.None)

  unfoldable pub start_set : ℕ → PositionSet
  start_set j = only (get_or m.start j (position 0))

-- the tables say what the task says
pub record Told (t : Task) (needs lands goals : List PositionSet) : Type 0 where
  pub need : (s : Step) (j : Column) → s.0 < step_count t → j.0 < column_count t → past needs (row_of s.0) j.0 ≡ wants (need_at t s j)
  pub land : (s : Step) (j : Column) → s.0 < step_count t → j.0 < column_count t → past lands (row_of s.0) j.0 ≡ landing (need_at t s j) (effect_at t s j)
  pub goal : (j : Column) → j.0 < column_count t → get_or goals j.0 0 ≡ wants (goal_at t j)

-- ---- the tables in one array: a row for what each step needs, then for where each lands, then the goal, then the start as it stands

-- the rows from row r on
unfoldable pub rows_from : ℕ → List ℕ → List ℕ
rows_from r tables = drop (row_of r) tables

abbrev pub lands_in : List ℕ → List ℕ
lands_in tables = rows_from lands_row tables

abbrev pub goals_in : List ℕ → List ℕ
goals_in tables = rows_from goal_row tables

abbrev pub start_in : List ℕ → List ℕ
start_in tables = rows_from start_row tables

-- a row of sets with one position each holds the positions of a state
unfoldable pub Stands : Task → State → List PositionSet → Type 0
Stands t x here = (j : Column) → j.0 < column_count t → get_or here j.0 0 ≡ only (at x j)

-- the tables that code works on are those of the task
pub record Tables (t : Task) (columns steps : ℕ) (needs lands goals costs : List ℕ) : Type 0 where
  pub wide : column_count t ≡ columns
  pub long : step_count t ≡ steps
  pub told : Told t needs lands goals
  pub cost : (s : Step) → s.0 < steps → cost_of t s ≡ get_or costs s.0 0

-- a model's tables, laid over what the array held
unfoldable pub tables_of : Model → List ℕ → List ℕ
tables_of m old =
    laid m.columns (start_set m) (row_of start_row)
    (laid limits.columns (want_set m.goal) (row_of goal_row) (laid step_places (lands_set m) (row_of lands_row) (laid step_places (want_set m.need) 0 old)))

-- ---- the tests on the tables

-- step s leads from block a to block b
unfoldable pub leads_by : ℕ → List ℕ → List ℕ → List ℕ → ℕ → ℕ → ℕ → Bool
leads_by columns needs lands sets s a b =
    all columns (λ j. passes (past needs (row_of s) j) (past lands (row_of s) j) (past sets (row_of a) j) (past sets (row_of b) j))

-- block a is a goal block
unfoldable pub goal_by : ℕ → List ℕ → List ℕ → ℕ → Bool
goal_by columns goals sets a = all_lie columns 0 (row_of a) goals sets
