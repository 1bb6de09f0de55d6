use Rattle.std.proofs.Common.{◌≡◌}
use Rattle.fields.specs.Judging.{each}
use Rattle.fields.specs.Places.{puts}
use Rattle.sheets.specs.LentTables.{mark_values}
use Rattle.sheets.specs.ModelSheet.{marks_on}
use Rattle.reading.proofs.fill_step.Given as goal

abbrev pub invariant-loop-i : goal.invariant-loop-i
invariant-loop-i l = l.marks ≡ puts l.row (each l.i (mark_values (marks_on l.sheet.bytes.now l.sheet.shape.columns) l.j)) l.initial.marks
