use Rattle.blocks.specs.Masks.{start_set}
use Rattle.blocks.specs.Flat.{row_of, laid}
use Rattle.task.specs.Sizes.{limits, start_row}
use Prim.Native.Nat.{◌≤◌}
use mathlib.Core.Path.{◌≡◌}
use Rattle.masks.proofs.fill_start.Given as goal

abbrev pub invariant-loop-j : goal.invariant-loop-j
invariant-loop-j l = (l.j-end ≤ limits.columns) × (l.rows ≡ laid l.j (start_set l.model) (row_of start_row) l.initial.rows)
