use Rattle.std.proofs.Common.{◌≡◌}
use Rattle.fields.specs.Judging.{each}
use Rattle.fields.specs.Places.{puts}
use Rattle.sheets.specs.LentTables.{column_values}
use Rattle.sheets.specs.ModelSheet.{column_on}
use Rattle.reading.proofs.fill_frame.Given as goal

abbrev pub invariant-loop-i : goal.invariant-loop-i
invariant-loop-i l = l.frame ≡ puts 0 (each l.i (column_values (column_on l.sheet.bytes.now))) l.initial.frame
