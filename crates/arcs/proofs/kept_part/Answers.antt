use Rattle.arcs.specs.Words.{kept_part}
use Rattle.blocks.specs.Blocks.{is_empty}
use borrow.Author.Tests.{eq-eqb, ne_eqb}
use Rattle.arcs.proofs.kept_part.Goals as goal

pub returns-then-land-eq0 : goal.returns-then-land-eq0
unfolding kept_part is_empty
returns-then-land-eq0 c = rw (eq-eqb _ _ c.if-land-eq0.true)

pub returns : goal.returns
unfolding kept_part is_empty
returns c = rw (ne_eqb _ _ c.if-land-eq0.false)
