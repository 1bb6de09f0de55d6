use Rattle.arcs.specs.Words.{wide_in}
use Rattle.arcs.proofs.Arcs.is_wide.Goals as goal

pub returns : goal.returns
unfolding wide_in
returns c = c.all_lie.ensures
