-- Paths and least distances over any graph of numbered blocks and steps.
use Rattle.std.specs.Prelude.{◌≡◌, ◌⊎◌, List, get_or, ℕ, ◌+◌, ◌*◌, ◌/◌, ◌%◌, ◌<◌, ◌≤◌}
use Rattle.task.specs.Sizes.{limits, most_steps, most_tenths, tenth}

-- a path from a block to a goal block: its cost, and its number of steps
pub data Path (arc : ℕ → ℕ → ℕ → Type 0) (goal : ℕ → Type 0) (cost : ℕ → ℕ) : ℕ → ℕ → ℕ → Type 0 where
  here : {a : ℕ} → goal a → Path arc goal cost a 0 0
  step : {a c t : ℕ} (s b : ℕ) → arc a s b → Path arc goal cost b c t → Path arc goal cost a (cost s + c) (t + 1)

-- less cost, or the same cost and at most as many steps
abbrev pub NoWorse : ℕ → ℕ → ℕ → ℕ → Type 0
NoWorse c t c' t' = (c < c') ⊎ ((c ≡ c') × (t ≤ t'))

-- a distance holds its cost and its number of steps: cost * tenth + steps
abbrev pub no_way : ℕ
no_way = limits.no_way * tenth

-- d is the distance of block a: that of a path, and no path is better; no_way where there is no path
pub record IsDist (arc : ℕ → ℕ → ℕ → Type 0) (goal : ℕ → Type 0) (cost : ℕ → ℕ) (a d : ℕ) : Type 0 where
  pub top : d ≤ no_way
  pub some-path : d < no_way → Path arc goal cost a (d / tenth) (d % tenth)
  pub no-better : {c t : ℕ} → Path arc goal cost a c t → (d < no_way) × NoWorse (d / tenth) (d % tenth) c t

-- the first n places hold the distances, and the others what they held
pub record AllDist (arc : ℕ → ℕ → ℕ → Type 0) (goal : ℕ → Type 0) (cost : ℕ → ℕ) (n : ℕ) (D D' : List ℕ) : Type 0 where
  pub each : (a : ℕ) → a < n → IsDist arc goal cost a (get_or D' a 0)
  pub small : (a : ℕ) → a < n → get_or D' a 0 < no_way → (get_or D' a 0 % tenth ≤ most_steps) × (get_or D' a 0 / tenth ≤ most_tenths)
  pub rest : (a : ℕ) → n ≤ a → get_or D' a 0 ≡ get_or D a 0
