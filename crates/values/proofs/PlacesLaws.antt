-- Places that can matter: all that are lent, or as many as can be used.
use Rattle.std.proofs.Common.{ℕ, ◌*◌, ◌/◌, ◌≤◌, ◌<◌, ◌≡◌, min, sym, ap, ◌∙◌, List, length, take, length-take-le, ltb, lt-ltb, le-ltb, arith}
use native.Mathlib.Decide.{dec_lt}

-- two tests that say the same
pub same_test : (a b c d : ℕ) → (a < b → c < d) → (b ≤ a → d ≤ c) → ltb a b ≡ ltb c d
same_test a b c d f g = split (dec_lt a b)
  where
    split : Dec (a < b) → ltb a b ≡ ltb c d
    split (yes h) = lt-ltb a b h ∙ sym (lt-ltb c d (f h))
    split (no h) = le-ltb a b (omega arith) ∙ sym (le-ltb c d (g (omega arith)))

-- ---- a list with three values for each place that can matter
pub part-long : {A : Type 0} (places most : ℕ) (list : List A) {k : ℕ} → length list ≡ most * 3 → k ≡ min places most → length (take (k * 3) list) ≡ min places most * 3
part-long places most list {k} l e = length-take-le (k * 3) list (omega arith) ∙ ap (λ (x : ℕ). x * 3) e

-- whether k places are missing is seen in it: of n values as many are whole places as n has threes
pub missing-same : (places most k n have : ℕ) → k ≤ most → n / 3 ≡ places → have ≡ min places most * 3 → ltb n (k * 3) ≡ ltb have (k * 3)
missing-same places most k n have h w e = same_test n (k * 3) have (k * 3) (λ p. omega arith) (λ p. omega arith)
