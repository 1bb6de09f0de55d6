use mathlib.Core.Path.{sym, ◌∙◌}
use mathlib.Core.Bool.{false≢true}
use native.Mathlib.Omega.{arith}
use Rattle.settling.proofs.PickLaws.{scan-skip, scan-take, scan-end}
use Rattle.settling.proofs.nearest.Goals as goal
use Rattle.settling.proofs.nearest.Goals.{then-not-done-a+then-dist-a, else-not-done-a, else-not-done-a-via-then-not-done-a+else-dist-a, else-not-done-a-via-else-not-done-a}

pub loop-a-preserved : goal.loop-a-preserved
loop-a-preserved c =
    let s = c.loop-a.invariant in
    elim c.if-not-done-a.branch [
      | then-not-done-a+then-dist-a w ↦ rw (w.best-is, w.low-is) (scan-take _ _ _ s c.loop-a-test.true w.if-not-done-a.true (omega (arith, w.if-dist-a.true)))
      | else-not-done-a w ↦ rw (w.best-is, w.low-is) (elim w.else-not-done-a.branch [
        | else-not-done-a-via-then-not-done-a+else-dist-a v ↦ scan-skip _ _ _ s (λ _. v.if-dist-a.false)
        | else-not-done-a-via-else-not-done-a v ↦ scan-skip _ _ _ s (λ e. absurd (false≢true (sym e ∙ v.if-not-done-a.false)))
      ])
    ]

pub returns : goal.returns
returns c = scan-end _ _ _ c.loop-a.invariant (omega arith)
