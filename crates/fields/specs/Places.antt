-- Values put into a lent table, one after the other.
use Rattle.std.specs.Prelude.{ℕ, ◌+◌, List, [], ◌∷◌, set}

-- the table l with the values put from place at on
unfoldable pub puts : {A : Type 0} → ℕ → List A → List A → List A
puts at [] l = l
puts at (x ∷ xs) l = puts (at + 1) xs (set l at x)
