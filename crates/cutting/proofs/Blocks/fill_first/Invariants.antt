use mathlib.Core.Path.{◌≡◌}
use Prim.Native.Nat.{◌≤◌}
use Rattle.task.specs.Loops.{tab, over}
use Rattle.task.specs.Sizes.{limits}
use Rattle.cutting.proofs.FirstLaws.{first_set}
use Rattle.cutting.proofs.Blocks.fill_first.Given as goal

abbrev pub invariant-loop-j : goal.invariant-loop-j
invariant-loop-j l = (l.j-end ≤ limits.columns) × (l.self.sets ≡ over (tab l.j (first_set l.model)) l.initial.self.sets)
