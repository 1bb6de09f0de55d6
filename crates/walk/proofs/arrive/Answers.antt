use mathlib.Core.Path.{refl, sym, ◌∙◌, ap}
use Rattle.std.specs.Prelude.{Err}
use Rattle.walk.specs.Walking.{Found, arrive_by}
use Rattle.walk.proofs.arrive.Goals as goal

pub returns-then-is_goal : goal.returns-then-is_goal
unfolding arrive_by
returns-then-is_goal c = rw (sym c.is_goal.ensures ∙ c.if-is_goal.true) refl

pub returns : goal.returns
unfolding arrive_by
returns c = rw (sym c.is_goal.ensures ∙ c.if-is_goal.false) (ap {B = Found} Err c.row_cut.ensures)
