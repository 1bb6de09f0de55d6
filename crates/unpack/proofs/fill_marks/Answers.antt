use Prim.Native.Nat.{◌/◌, ◌%◌}
use native.Mathlib.Omega.{arith}
use borrow.Author.Rules.{rules}
use Rattle.task.specs.Sizes.{limits}
use Rattle.sheets.specs.Holding.{mark_place}
use Rattle.unpack.proofs.UnpackLaws.{mark-placed}
use Rattle.unpack.proofs.fill_marks.Goals as goal

pub returns : goal.returns
returns g c f e =
    let n = c.args.shape.columns in
    c.fill.ensures (mark_place f n) (λ k v h p. mark-placed f n k (λ l. e (k / limits.columns) (k % limits.columns) v (omega (arith, h)) l (search rules)) (λ l. search rules))
