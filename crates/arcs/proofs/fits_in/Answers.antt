use Rattle.arcs.specs.Arcs.{fits_in}
use Rattle.arcs.proofs.fits_in.Goals as goal

pub returns : goal.returns
unfolding fits_in
returns c = c.all_lie.ensures
