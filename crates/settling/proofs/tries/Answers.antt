use mathlib.Core.Path.{sym, ◌∙◌}
use mathlib.Core.List.{List}
use Prim.Native.Nat.{ℕ}
use native.Mathlib.Omega.{arith}
use Rattle.arcs.proofs.ArcLaws.{fits-row}
use Rattle.settling.proofs.LowerLaws.{part_end, tried-more, no-landing, lands-there}
use Rattle.settling.proofs.tries.Goals as goal
use Rattle.settling.proofs.tries.Goals.{then-fits_in, else-fits_in}

pub loop-s-preserved : goal.loop-s-preserved
loop-s-preserved c =
    let l = c.loop-s in
    let g = c.args in
    let more = λ (D : List ℕ). tried-more g.tables.now g.blocks.now g.arcs.now g.b l.s g.dist.now l.dist D c.requires.turned c.loop-s-test.true (omega (arith, c.weigh.ensures)) l.invariant in
    let lands = c.fits_in.ensures ∙ fits-row _ _ _ _ _ in
    elim c.if-fits_in.branch [
      | then-fits_in w ↦ rw w.dist-is (more _ (lands-there _ _ _ _ _ _ _ _ _ _ _ _ _ (sym lands ∙ w.if-fits_in.true) (rw c.weigh.ensures.0 at w.lower.ensures)))
      | else-fits_in w ↦ rw w.dist-is (more _ (no-landing _ _ _ _ _ _ _ _ _ _ _ _ _ (sym lands ∙ w.if-fits_in.false)))
    ]

pub returns : goal.returns
returns c = part_end _ _ _ _ _ _ _ _ _ c.requires.turned.inside (omega arith) c.loop-s.invariant
