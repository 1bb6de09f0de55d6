-- The figures of a row as code has them, from the estimates before and after it, in which "no way" is its mark.
use Rattle.std.specs.Prelude.{ℕ, ◌+◌, ◌*◌, ◌≤◌, ◌<◌, cond, List, [], ◌∷◌, eqb, ℤ, pos, ◌-ℤ◌, get_or}
use Rattle.task.specs.Sizes.{limits}
use Rattle.replay.specs.Replay.{dash}

-- what a row is put from: its places are there, and no value is more than a sheet can bring
pub record RowFits (i before after places : ℕ) : Type 0 where
  pub logged : i < limits.log
  pub there : i * 3 + 3 ≤ places
  pub before-low : before ≤ limits.no_way
  pub after-low : after ≤ limits.no_way

abbrev pub won_by : ℕ → ℕ → ℤ
won_by before after = cond (eqb after limits.no_way) dash (pos before -ℤ pos after)

abbrev pub detour_by : ℕ → ℕ → ℕ → ℤ
detour_by paid before after = cond (eqb after limits.no_way) dash (pos paid -ℤ (pos before -ℤ pos after))

abbrev pub row_of : ℕ → ℕ → ℕ → List ℤ
row_of paid before after = pos paid ∷ won_by before after ∷ detour_by paid before after ∷ []

-- row i, from tables of costs and of estimates
unfoldable pub row_by : List ℕ → List ℕ → List ℕ → ℕ → List ℤ
row_by costs log estimates i = row_of (get_or costs (get_or log i 0) 0) (get_or estimates i 0) (get_or estimates (i + 1) 0)
