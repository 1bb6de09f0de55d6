use mathlib.Core.Path.{◌≡◌}
use Rattle.fields.specs.Judging.{each}
use Rattle.fields.specs.Places.{puts}
use Rattle.figures.specs.Figures.{row_by}
use Rattle.figures.proofs.put_rows.Given as goal

abbrev pub invariant-loop-i : goal.invariant-loop-i
invariant-loop-i l = l.rows ≡ puts 0 (each l.i (row_by l.costs l.log l.estimates)) l.initial.rows
