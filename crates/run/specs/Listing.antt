-- 01, "A run": cuts and rows as numbers in lent lists, one place after the other. What a cut's place holds stands beside the cut, in `blocks`.
use Rattle.std.specs.Prelude.{ℕ, List, [], ◌∷◌, ◌++◌}
use Rattle.run.specs.declared.Row.{Row}

unfoldable pub listed : {A : Type 0} → (A → List ℕ) → List A → List ℕ
listed f [] = []
listed f (x ∷ xs) = f x ++ listed f xs

-- step, tenths, tenths left
unfoldable pub row_place : Row → List ℕ
row_place r = r.step.0 ∷ r.tenths ∷ r.left ∷ []
