-- Laws of fields, each once over the width.
use Prim.Native.Nat.{ℕ, zero, suc, ◌+◌, ◌-◌, ◌*◌, ◌^◌, ◌≤◌, ◌<◌}
use native.Mathlib.Nat.{pow-suc, lt_of_lt_of_le}
use native.Mathlib.Numerals.{add-one}
use native.Mathlib.Omega.{arith}
use lib.Pow.{pow_mono}
use mathlib.Core.Path.{◌≡◌, refl, ap, ◌∙◌}
use mathlib.Core.List.{List}
use Rattle.fields.specs.Bits.{bit_at, field_at}

-- a bit is 0 or 1
pub bit-lt : (s : List ℕ) (k : ℕ) → bit_at s k < 2
unfolding bit_at
bit-lt s k = omega arith

-- a field of w bits is below 2 ^ w
pub field_lt : (s : List ℕ) (at w : ℕ) → field_at s at w < 2 ^ w
unfolding field_at
field_lt s at zero = omega arith
field_lt s at (suc w) = rw pow-suc (omega (arith, field_lt s at w, bit-lt s (at + w)))

-- one bit more
pub field-more : (s : List ℕ) (at w : ℕ) → field_at s at (w + 1) ≡ 2 * field_at s at w + bit_at s (at + w)
unfolding field_at
field-more s at w = rw add-one refl

-- a loop over the positions from at on
pub field_none : (s : List ℕ) (at : ℕ) {d : ℕ} → d ≡ 0 → 0 ≡ field_at s at d
unfolding field_at
field_none s at e = rw e refl

pub field-next : (s : List ℕ) {at k : ℕ} → at ≤ k → field_at s at (k + 1 - at) ≡ 2 * field_at s at (k - at) + bit_at s k
field-next s {at} {k} h =
    let d : k + 1 - at ≡ k - at + 1 = omega arith in
    let q : at + (k - at) ≡ k = omega arith in
    ap (field_at s at) d ∙ field-more s at (k - at) ∙ ap (λ (x : ℕ). 2 * field_at s at (k - at) + bit_at s x) q

-- a field no wider than m fits what holds m bits
pub field_fits : (s : List ℕ) (at w : ℕ) {m : ℕ} → w ≤ m → field_at s at w < 2 ^ m
field_fits s at w h = lt_of_lt_of_le (field_lt s at w) (pow_mono h)

-- a field read at a position that is known by another name
pub read_at : (s : List ℕ) (w : ℕ) {a b v : ℕ} → a ≡ b → v ≡ field_at s a w → v ≡ field_at s b w
read_at s w q e = e ∙ ap (λ (x : ℕ). field_at s x w) q
