use Rattle.blocks.specs.Masks.{lands_set}
use Rattle.blocks.specs.Flat.{row_of, laid}
use Rattle.task.specs.Sizes.{lands_row}
use mathlib.Core.Path.{◌≡◌}
use Rattle.masks.proofs.fill_lands.Given as goal

abbrev pub invariant-loop-i : goal.invariant-loop-i
invariant-loop-i l = l.rows ≡ laid l.i (lands_set l.model) (row_of lands_row) l.initial.rows
