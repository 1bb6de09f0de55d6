use Rattle.standing.specs.Standing.{cut_by}
use Rattle.standing.proofs.RowLaws.{lowest-is}
use Rattle.blocks.specs.Blocks.{common}
use Rattle.blocks.specs.Flat.{past}
use mathlib.Core.Path.{refl, ◌∙◌}
use Rattle.standing.proofs.Standing.cut_for.Goals as goal

pub returns : goal.returns
unfolding cut_by common past
returns c =
    let g = c.args in
    let o = c.unwrap_or-column in
    let e = o.ensures ∙ lowest-is g.columns g.wanted.now g.self.now.sets c.lowest_off.result c.lowest_off.ensures.lowest in
    rw (c.from-j.ensures, c.from-ra.ensures, e) refl
