-- 01, "A run": how many values an answer's cuts and rows take in the lists, three for each place.
use Rattle.std.specs.Prelude.{ℕ, ◌-◌, ◌*◌, ◌≤◌}
use Rattle.task.specs.Sizes.{limits}
use Rattle.fields.specs.Refusals.{Answered, Done, Refused}
use Rattle.running.specs.declared.Answer.{Answer}
use Rattle.running.specs.declared.Answer.TheVariants.{Plan, NoPlan, Open}

-- there is one cut less than blocks
unfoldable pub cut_value_count : Answered Answer → ℕ
cut_value_count (Refused n) = 0
cut_value_count (Done (Plan cost steps blocks)) = (blocks - 1) * 3
cut_value_count (Done (NoPlan blocks)) = (blocks - 1) * 3
cut_value_count (Done (Open estimate blocks)) = (blocks - 1) * 3

-- a plan has one row for each step
unfoldable pub row_count : Answered Answer → ℕ
row_count (Refused n) = 0
row_count (Done (Plan cost steps blocks)) = steps
row_count (Done (NoPlan blocks)) = 0
row_count (Done (Open estimate blocks)) = 0

unfoldable pub row_value_count : Answered Answer → ℕ
row_value_count a = row_count a * 3

-- the numbers of an answer are those of a room of at most 256 blocks
unfoldable pub Counted : Answered Answer → Type 0
Counted (Refused n) = Unit {0}
Counted (Done (Plan cost steps blocks)) = (1 ≤ blocks) × (blocks ≤ limits.blocks) × (steps ≤ limits.blocks)
Counted (Done (NoPlan blocks)) = (1 ≤ blocks) × (blocks ≤ limits.blocks)
Counted (Done (Open estimate blocks)) = (1 ≤ blocks) × (blocks ≤ limits.blocks)
