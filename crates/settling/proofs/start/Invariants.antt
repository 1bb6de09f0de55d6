use mathlib.Core.Path.{◌≡◌}
use lib.ListN.{length}
use Rattle.task.specs.Sizes.{limits}
use Rattle.blocks.specs.Masks.{goals_in, goal_by}
use Rattle.settling.specs.Turns.{Started}
use Rattle.settling.proofs.start.Given as goal

abbrev pub invariant-loop-a : goal.invariant-loop-a
invariant-loop-a l = record {
  size : length l.dist ≡ limits.blocks;
  started : Started (goal_by l.tables.shape.columns (goals_in l.tables.rows) l.blocks.sets) l.a l.initial.dist l.dist;
}
