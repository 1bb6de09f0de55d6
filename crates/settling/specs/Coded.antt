-- A distance as one number: its cost times `tenth`, and its steps. "No way" is the mark for it, times `tenth`.
use Rattle.std.specs.Prelude.{cond, List, ℕ, ◌+◌, ◌*◌, ◌/◌, ◌%◌, ◌≤◌, ltb, get_or}
use Rattle.std.proofs.Math.Option.{Option, none, some}
use Rattle.task.specs.Loops.{tab, over}
use Rattle.task.specs.Task.{Task, block}
use Rattle.task.specs.Sizes.{limits, tenth}
use Rattle.blocks.specs.Blocks.{Blocks}
use Rattle.blocks.specs.Flat.{Followable}
use Rattle.distances.specs.Distances.{Distance, Table, far_of, distances}
use Rattle.settling.specs.Ways.{no_way}

unfoldable pub coded : Option Distance → ℕ
coded none = no_way
coded (some d) = d.cost * tenth + d.steps

unfoldable pub decoded : ℕ → Option Distance
decoded n = cond (ltb n no_way) (some (record { cost = n / tenth; steps = n % tenth })) none

unfoldable pub coded_at : Table → ℕ → ℕ
coded_at l a = coded (far_of l (block a))

-- a table of numbers whose first places hold the distances, the others what they held
unfoldable pub coded_over : Task → Blocks → ℕ → List ℕ → List ℕ
coded_over t bs count old = over (tab count (coded_at (distances t bs))) old

-- cuts that can be followed, and a table with a cost for each of their blocks
pub record Measured (count : ℕ) (cuts dist : List ℕ) : Type 0 where
  pub follows : Followable count cuts
  pub costs : (a : ℕ) → a ≤ count → get_or dist a 0 / tenth ≤ limits.no_way
