use Rattle.std.proofs.Common.{◌≡◌}
use Rattle.fields.specs.Packing.{packed}
use Rattle.sheets.specs.ModelSheet.{columns_part}
use Rattle.writing.specs.Writing.{lent}
use Rattle.writing.proofs.put.put_columns.Given as goal

abbrev pub invariant-loop-i : goal.invariant-loop-i
invariant-loop-i l = l.out ≡ packed 17 (columns_part (lent l.tables) l.i) l.initial.out
