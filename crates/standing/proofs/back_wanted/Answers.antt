use mathlib.Core.Path.{◌≡◌, refl, sym}
use native.Mathlib.Omega.{arith}
use Rattle.task.proofs.LoopLaws.{over_none, over-set}
use Rattle.task.specs.Sizes.{limits}
use Rattle.blocks.specs.Flat.{past}
use Rattle.standing.proofs.RowLaws.{back-all}
use Rattle.standing.proofs.back_wanted.Goals as goal

pub loop-j-init : goal.loop-j-init
loop-j-init c = sym (over_none _ _)

pub loop-j-preserved : goal.loop-j-preserved
unfolding past
loop-j-preserved c =
    let l = c.loop-j in
    over-set _ l.j _ l.want-items _ l.invariant (omega arith) c.back_set.ensures

pub returns : goal.returns
unfolding past
returns c =
    let l = c.loop-j in
    let e : l.j ≡ limits.columns = omega arith in
    rw (← c.from-step.ensures, ← c.from-rb.ensures) (back-all _ c.from-step.result _ c.from-rb.result _ (rw e at l.invariant) refl)
