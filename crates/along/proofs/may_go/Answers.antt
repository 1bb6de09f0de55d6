use borrow.Author.Tests.{le-ltb}
use Rattle.along.proofs.TurnLaws.{unknown, known}
use Rattle.along.proofs.may_go.Goals as goal

pub returns-then-s-tables : goal.returns-then-s-tables
returns-then-s-tables c = let g = c.args in known g.tables.now.shape.columns g.tables.now.shape.steps g.tables.now.rows g.here.now.sets g.s c.if-s-tables.true c.can_take.ensures

pub returns-else-s-tables : goal.returns-else-s-tables
returns-else-s-tables c = let g = c.args in rw (le-ltb _ _ c.if-s-tables.false) (unknown g.tables.now.shape.columns g.tables.now.shape.steps g.tables.now.rows g.here.now.sets g.s c.if-s-tables.false)
