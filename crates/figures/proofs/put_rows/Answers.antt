use mathlib.Core.Path.{refl, ◌∙◌}
use Rattle.fields.proofs.PlaceLaws.{puts_none, puts-next}
use Rattle.figures.specs.Figures.{row_by}
use Rattle.figures.proofs.put_rows.Goals as goal

pub loop-i-init : goal.loop-i-init
loop-i-init c = puts_none 0 _ _

pub loop-i-preserved : goal.loop-i-preserved
unfolding row_by
loop-i-preserved c =
    let g = c.args in
    let l = c.loop-i in
    c.put_row.ensures ∙ puts-next (row_by g.costs.now g.log.now g.estimates.now) 3 (λ i. refl) l.i g.rows.now l.invariant
