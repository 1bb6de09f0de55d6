use native.Mathlib.Omega.{arith}
use Prim.Native.Nat.{◌+◌, ◌*◌}
use mathlib.Core.Path.{◌≡◌, refl}
use Rattle.fields.specs.Places.{puts}
use Rattle.blocks.specs.Flat.{cut_place}
use Rattle.cutting.proofs.put_cut.Goals as goal

pub returns : goal.returns
unfolding puts cut_place
returns c =
    let p = c.args.i * 3 in
    let third : p + 2 ≡ p + 1 + 1 = omega arith in
    rw (c.from.ensures, c.from-2.ensures, third) refl
