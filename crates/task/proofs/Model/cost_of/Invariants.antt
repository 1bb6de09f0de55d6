use Rattle.task.specs.Tables.{task_of}
use Rattle.task.specs.Task.{costs}
use Rattle.task.specs.Sizes.{most_cost}
use lib.ListN.{take}
use Prim.Native.Nat.{◌*◌, ◌≤◌}
use mathlib.Core.Path.{◌≡◌}
use Rattle.task.proofs.Model.cost_of.Given as goal

abbrev pub invariant-loop-i : goal.invariant-loop-i
invariant-loop-i l = (l.sum ≤ most_cost * l.i) × (l.sum ≡ costs (task_of l.self) (take l.i l.list))
