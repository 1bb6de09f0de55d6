-- The search for a nearest open block, turn by turn.
use mathlib.Core.Path.{◌≡◌, refl}
use mathlib.Core.Bool.{Bool, false}
use mathlib.Core.List.{List}
use Prim.Native.Nat.{ℕ, ◌+◌, ◌<◌, ◌≤◌}
use native.Mathlib.Omega.{arith}
use borrow.Author.Count.{below_more}
use lib.ListN.{get_or}
use Rattle.std.specs.Prelude.{Option, Some, None}
use Rattle.settling.specs.Ways.{no_way}
use Rattle.settling.specs.Turns.{Picked}

-- the best of the first i blocks, and its value, or none and no way
pub record Scan (n : ℕ) (D : List ℕ) (F : List Bool) (best : Option ℕ) (low i : ℕ) : Type 0 where
  pub low-le : low ≤ no_way
  pub below : (k : ℕ) → k < i → get_or F k false ≡ false → low ≤ get_or D k 0
  pub none : best ≡ None → low ≡ no_way
  pub one : (b : ℕ) → best ≡ Some b → (b < n) × (get_or F b false ≡ false) × (get_or D b 0 ≡ low) × (low < no_way)

module _ (n : ℕ) (D : List ℕ) (F : List Bool) where
  module _ {best : Option ℕ} {low i : ℕ} (s : Scan n D F best low i) where
    pub scan-skip : (get_or F i false ≡ false → low ≤ get_or D i 0) → Scan n D F best low (i + 1)
    scan-skip h = record { low-le = s.low-le; below = below_more (λ k. get_or F k false ≡ false → low ≤ get_or D k 0) i s.below h; none = s.none; one = s.one }

    pub scan-take : i < n → get_or F i false ≡ false → get_or D i 0 < low → Scan n D F (Some i) (get_or D i 0) (i + 1)
    scan-take l f h =
        let w = s.low-le in
        record {
          low-le = omega arith;
          below = below_more (λ k. get_or F k false ≡ false → get_or D i 0 ≤ get_or D k 0) i (λ k b o. let v = s.below k b o in omega arith) (λ _. omega arith);
          none = λ e. absurd (cc);
          one = λ b e. let q : i ≡ b = cc in rw (← q) (l, f, refl, omega arith);
        }

    pub scan-end : i ≡ n → Picked n D F best
    scan-end e =
        record {
          found = λ b q. let w = s.one b q in
              record { inside = w.0; open-yet = w.1; known = omega arith; least = λ k h o. let v = s.below k (rw e h) o in omega arith };
          none = λ q k h o. let v = s.below k (rw e h) o in let w = s.none q in omega arith;
        }
