-- The signed figures of a row: a difference of two numbers that fit is read back as it is, and a row as code has it is the row of the definition.
use Prim.Native.Nat.{ℕ, zero, suc, ◌-◌, ◌^◌, ◌<◌}
use native.Mathlib.Omega.{arith}
use mathlib.Core.Path.{◌≡◌, refl}
use mathlib.Core.Bool.{Bool, true, false, not, cond}
use mathlib.Core.List.{[], ◌∷◌}
use mathlib.Core.Option
use mathlib.Core.Option.{Option, none, some, map}
use lib.Dec.{ltb}
use lib.IntN.{ℤ, pos, negsuc, ◌-ℤ◌}
use lib.Signed.{mag}
use mir.Syntax.{Width}
use mir.Val.{SFits, to_z, of_z, hbits}
use mir.Facts.{to_z_pos, to_z-of_z}
use borrow.Author.Tests.{ne_eqb}
use Rattle.task.specs.Sizes.{limits}
use Rattle.task.specs.Task.{Tenths}
use Rattle.replay.specs.Replay.{has_way, figure}
use Rattle.figures.specs.Figures.{row_of}

-- ---- differences within a width
mag-pick : (t : Bool) (a b n : ℕ) → a < n → b < n → mag (cond t (negsuc a) (pos b)) < n
mag-pick true a b n p q = p
mag-pick false a b n p q = q

mag-sub : (a b n : ℕ) → a < n → b < n → mag (pos a -ℤ pos b) < n
mag-sub a zero n p q = omega arith
mag-sub a (suc b) n p q = mag-pick (ltb a (suc b)) (suc b - suc a) (a - suc b) n (omega arith) (omega arith)

module _ (w : Width) (a b : ℕ) (p : a < 2 ^ hbits w) (q : b < 2 ^ hbits w) where
  pub sub-fits : SFits w (to_z w a -ℤ to_z w b)
  sub-fits = rw (to_z_pos w p, to_z_pos w q) (record { sfits = mag-sub a b (2 ^ hbits w) p q })

  pub sub-reads : to_z w (of_z w (to_z w a -ℤ to_z w b)) ≡ pos a -ℤ pos b
  sub-reads = rw (to_z-of_z sub-fits, to_z_pos w p, to_z_pos w q)

-- ---- a row from its estimates, which stand in code as a number each
module _ (p : ℕ) (b a : Option Tenths) (known : (e : Tenths) → a ≡ some e → e < limits.no_way) (way : has_way a ≡ true → has_way b ≡ true) where
  -- what 02 has in the row
  abbrev shown : Option ℤ
  shown = cond (not (has_way a)) none (some (pos (Option.get_or b 0) -ℤ pos (Option.get_or a 0)))

  abbrev Same : Option Tenths → Option Tenths → Type 0
  Same b a =
      row_of p (Option.get_or b limits.no_way) (Option.get_or a limits.no_way)
      ≡ pos p ∷ figure (cond (not (has_way a)) none (some (pos (Option.get_or b 0) -ℤ pos (Option.get_or a 0))))
      ∷ figure (map (λ w. pos p -ℤ w) (cond (not (has_way a)) none (some (pos (Option.get_or b 0) -ℤ pos (Option.get_or a 0))))) ∷ []

  same : (b a : Option Tenths) → ((e : Tenths) → a ≡ some e → e < limits.no_way) → (has_way a ≡ true → has_way b ≡ true) → Same b a
  unfolding has_way figure
  same b none k w = refl
  same none (some e) k w = let z = w refl in let y : ◌≡◌ {A = ℕ} 0 1 = cc in absurd (omega arith)
  same (some d) (some e) k w = simp (ne_eqb e limits.no_way (λ z. omega (arith, k e refl, z)))

  pub row_same : Same b a
  row_same = same b a known way
