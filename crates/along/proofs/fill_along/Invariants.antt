use mathlib.Core.Path.{◌≡◌}
use Rattle.task.specs.Loops.{tab, over}
use Rattle.blocks.specs.Masks.{lands_in}
use Rattle.along.specs.Along.{here_after, cost_after}
use Rattle.along.proofs.fill_along.Given as goal

abbrev pub invariant-loop-i : goal.invariant-loop-i
invariant-loop-i l =
    (l.here.sets ≡ here_after l.tables.shape.columns (lands_in l.tables.rows) l.log l.initial.here.sets l.i)
    × (l.estimates ≡ over (tab l.i (cost_after l.tables.shape.columns (lands_in l.tables.rows) l.count l.cuts l.dist l.log l.initial.here.sets)) l.initial.estimates)
