use mathlib.Core.Path.{◌≡◌}
use mathlib.Core.Option.{none}
use Rattle.task.specs.Loops.{first}
use Rattle.blocks.specs.Masks.{lands_in}
use Rattle.along.specs.Along.{here_after, stop_at}
use Rattle.along.proofs.judge_log.Given as goal

abbrev pub invariant-loop-i : goal.invariant-loop-i
invariant-loop-i l =
    (l.here.sets ≡ here_after l.tables.shape.columns (lands_in l.tables.rows) l.log l.initial.here.sets l.i)
    × (first l.i (stop_at l.tables.shape.columns l.tables.shape.steps l.tables.rows (lands_in l.tables.rows) l.log l.initial.here.sets) ≡ none)
