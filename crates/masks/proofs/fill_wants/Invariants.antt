use Rattle.blocks.specs.Masks.{want_set}
use Rattle.blocks.specs.Flat.{row_of, laid}
use mathlib.Core.Path.{◌≡◌}
use Rattle.masks.proofs.fill_wants.Given as goal

abbrev pub invariant-loop-i : goal.invariant-loop-i
invariant-loop-i l = l.rows ≡ laid l.i (want_set l.wanted) (row_of l.row) l.initial.rows
