-- 01, "The planner's boundary": places of three values, as bytes.
use Rattle.std.specs.Prelude.{ℕ, ◌+◌, ◌*◌, ◌≡◌, List}
use Rattle.values.specs.Values.{value_on}

-- what a C program takes from the twelve bytes of place k
pub record PlaceSays (bytes : List ℕ) (k a b c : ℕ) : Type 0 where
  pub first : value_on bytes (k * 3) ≡ a
  pub second : value_on bytes (k * 3 + 1) ≡ b
  pub third : value_on bytes (k * 3 + 2) ≡ c
