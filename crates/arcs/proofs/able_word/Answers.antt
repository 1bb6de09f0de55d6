use Rattle.blocks.specs.Flat.{past}
use Rattle.arcs.proofs.WordLaws.{fits-none, fits_more}
use Rattle.arcs.proofs.able_word.Goals as goal

pub loop-j-init : goal.loop-j-init
loop-j-init c = fits-none _ _ _ _

pub loop-j-preserved : goal.loop-j-preserved
unfolding past
loop-j-preserved c = let l = c.loop-j in fits_more _ _ _ _ l.j l.v _ l.invariant c.with_need-v.ensures
