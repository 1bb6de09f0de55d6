-- Fields within the first b bytes of a sheet.
use Prim.Native.Nat.{ℕ, ◌+◌, ◌*◌, ◌/◌, ◌≤◌, ◌<◌}
use native.Mathlib.Omega.{arith}
use mathlib.Core.Path.{◌≡◌}
use mathlib.Core.List.{List}
use lib.ListN.{take}
use lib.Seq.{get_or-take}
use Rattle.fields.specs.Bits.{bit_at, field_at}
use Rattle.fields.proofs.PutLaws.{field-cong}

bit-take : (s : List ℕ) (b k : ℕ) → k < 8 * b → bit_at (take b s) k ≡ bit_at s k
unfolding bit_at
bit-take s b k h = rw (get_or-take b s (k / 8) 0 (omega arith))

pub field-take : (s : List ℕ) (b at w : ℕ) → at + w ≤ 8 * b → field_at (take b s) at w ≡ field_at s at w
field-take s b at w h = field-cong (take b s) s at w (λ k l. bit-take s b (at + k) (omega arith))
