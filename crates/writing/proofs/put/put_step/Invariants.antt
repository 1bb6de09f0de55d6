use Rattle.std.proofs.Common.{◌≡◌, ◌+◌}
use Rattle.fields.specs.Judging.{each}
use Rattle.fields.specs.Packing.{packed}
use Rattle.sheets.specs.ModelSheet.{model_bits, marks_part}
use Rattle.writing.specs.Writing.{lent}
use Rattle.writing.proofs.put.put_step.Given as goal

abbrev pub invariant-loop-i : goal.invariant-loop-i
invariant-loop-i l =
    l.out ≡ packed (model_bits l.tables.shape.columns l.j + 16) (each l.i (marks_part (lent l.tables).column (lent l.tables).marks l.j)) l.initial.out
