-- Lists of bytes: how many whole values they hold, and how many whole places of three.
use Prim.Native.Nat.{ℕ, ◌*◌, ◌/◌, ◌≤◌}
use native.Mathlib.Omega.{arith}
use mathlib.Core.Path.{◌≡◌}
use mathlib.Core.List.{List, map}
use lib.ListN.{length}
use Rattle.task.proofs.LoopLaws.{tab-length}
use Rattle.values.specs.Values.{value_on, values_on}

pub whole-values : (bytes : List ℕ) → length (values_on bytes) ≡ length bytes / 4
unfolding values_on
whole-values bytes = tab-length (length bytes / 4) (value_on bytes)

pub whole-places : (bytes : List ℕ) → length (values_on bytes) / 3 ≡ length bytes / 12
whole-places bytes = omega (arith, whole-values bytes)

-- the values of a list of numbers, as they are put
abbrev pub plain : List ℕ → List ℕ
plain = map (λ (v : ℕ). v)

-- what putting k values of a list asks
abbrev pub CanPut : {A : Type 0} → ℕ → List A → List ℕ → Type 0
CanPut k values bytes = record { room : k * 4 ≤ length bytes; given : k ≤ length values }
