use Prim.Native.Nat.{ℕ, ◌+◌, ◌*◌}
use mathlib.Core.Path.{◌≡◌, ap}
use native.Mathlib.Omega.{arith}
use Rattle.sheets.specs.ModelSheet.{model_bits}
use Rattle.sheets.proofs.SheetLaws.{bits-le}
use Rattle.sheets.proofs.model_bits.Goals as goal

pub returns : goal.returns
unfolding model_bits
returns c =
    let a = c.args in
    let q : c.column_bits.result + a.steps * (16 + a.columns * 12) ≡ model_bits a.columns a.steps = ap (λ (x : ℕ). x + a.steps * (16 + a.columns * 12)) c.column_bits.ensures.0 in
    (q, omega (arith, q, bits-le a.columns a.steps c.requires.0 c.requires.1))
