-- Figures of rows added up.
use Rattle.std.specs.Prelude.{ℕ, zero, suc, ℤ, pos, ◌+ℤ◌}

-- f i and those after it, n of them
unfoldable pub sum_from : (ℕ → ℤ) → ℕ → ℕ → ℤ
sum_from f i zero = pos 0
sum_from f i (suc n) = f i +ℤ sum_from f (suc i) n
