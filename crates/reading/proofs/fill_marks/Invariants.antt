use Rattle.std.proofs.Common.{◌≡◌}
use Rattle.fields.specs.Judging.{each}
use Rattle.fields.specs.Places.{puts}
use Rattle.sheets.specs.LentTables.{step_values}
use Rattle.sheets.specs.ModelSheet.{marks_on}
use Rattle.reading.proofs.fill_marks.Given as goal

abbrev pub invariant-loop-j : goal.invariant-loop-j
invariant-loop-j l =
    let n = l.sheet.shape.columns in
    l.marks ≡ puts 0 (each l.j (step_values (marks_on l.sheet.bytes.now n) n)) l.initial.marks
