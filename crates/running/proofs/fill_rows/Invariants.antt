use Rattle.running.proofs.RowLaws.{RowsFrom}
use Rattle.running.proofs.fill_rows.Given as goal

abbrev pub invariant-loop-i : goal.invariant-loop-i
invariant-loop-i l = RowsFrom l.path l.cost l.initial.list l.list l.left l.i
