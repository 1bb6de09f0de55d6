use Rattle.fields.specs.Bits.{with_bit}
use Rattle.std.proofs.Common.{◌≡◌, ◌*◌, ◌^◌, ◌%◌, ◌∙◌, refl, arith}
use lib.Pow.{shl_exact}
use native.Mathlib.Nat.{one-mul}
use Rattle.fields.proofs.PutLaws.{with_byte}
use Rattle.fields.proofs.bits.with_bit.Goals as goal

pub returns : goal.returns
unfolding with_bit
returns c =
    let a = c.args in
    let p : 1 * 2 ^ a.e % 2 ^ 32 ≡ 2 ^ a.e = shl_exact 1 a.e 32 (omega arith) (omega arith) ∙ one-mul _ in
    rw p (refl, with_byte a.x a.e a.b c.requires.2 c.requires.0 c.requires.1)
