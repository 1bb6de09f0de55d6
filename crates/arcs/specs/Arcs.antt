-- The arcs between the blocks of a flat array, and the parts of the test of an arc.
use Rattle.std.specs.Prelude.{◌≡◌, Bool, true, ◌&&◌, not, List, ℕ, ◌<◌, get_or}
use Rattle.task.specs.Loops.{all}
use Rattle.blocks.specs.Blocks.{common, is_empty}
use Rattle.blocks.specs.Flat.{past, row_of}
use Rattle.blocks.specs.Masks.{all_lie, leads_by, goal_by}

-- step s leads from block a to block b, all three of them there
pub record Arc (columns count steps : ℕ) (needs lands sets : List ℕ) (a s b : ℕ) : Type 0 where
  pub out : a < count
  pub by : s < steps
  pub into : b < count
  pub leads : leads_by columns needs lands sets s a b ≡ true

-- what step s wants lies in block a: its needs where it starts, its landing where it ends
unfoldable pub fits_in : ℕ → List ℕ → List ℕ → ℕ → ℕ → Bool
fits_in columns wants sets s a = all_lie columns (row_of s) (row_of a) wants sets

-- the columns that step s keeps
unfoldable pub keeps : List ℕ → ℕ → ℕ → Bool
keeps lands s j = is_empty (past lands (row_of s) j)

-- the columns in which blocks a and b have no position in common
unfoldable pub parted : List ℕ → ℕ → ℕ → ℕ → Bool
parted sets b a j = is_empty (common (past sets (row_of a) j) (past sets (row_of b) j))

-- blocks a and b are apart in no column that step s keeps
unfoldable pub kept_meet : ℕ → List ℕ → List ℕ → ℕ → ℕ → ℕ → Bool
kept_meet columns lands sets s b a = all columns (λ j. not (keeps lands s j && parted sets b a j))

-- the graph's costs and goal blocks, as the tables have them
abbrev pub cost_in : List ℕ → ℕ → ℕ
cost_in costs s = get_or costs s 0

abbrev pub GoalIn : ℕ → List ℕ → List ℕ → ℕ → Type 0
GoalIn columns goals sets a = goal_by columns goals sets a ≡ true
