use Rattle.std.proofs.Common.{◌≡◌}
use Rattle.fields.specs.Packing.{packed}
use Rattle.sheets.specs.ModelSheet.{column_bits, steps_part}
use Rattle.writing.specs.Writing.{lent}
use Rattle.writing.proofs.put.put_steps.Given as goal

abbrev pub invariant-loop-j : goal.invariant-loop-j
invariant-loop-j l =
    let n = l.tables.shape.columns in
    l.out ≡ packed (column_bits n) (steps_part (lent l.tables) n l.j) l.initial.out
