use Prim.Native.Nat.{◌≤◌}
use mathlib.Core.Path.{◌≡◌}
use Rattle.task.specs.Loops.{tab, over}
use Rattle.task.specs.Sizes.{limits}
use Rattle.preparing.proofs.WholeLaws.{whole_on}
use Rattle.preparing.proofs.fill_whole.Given as goal

abbrev pub invariant-loop-j : goal.invariant-loop-j
invariant-loop-j l = (l.columns ≤ limits.columns) × (l.blocks.sets ≡ over (tab l.j (whole_on l.model)) l.initial.blocks.sets)
