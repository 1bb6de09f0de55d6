use Rattle.std.proofs.Common.{ℕ, ◌+◌, set, ap, arith}
use Rattle.fields.proofs.FieldLaws.{field_lt, read_at}
use Rattle.fields.specs.Places.{puts}
use Rattle.sheets.specs.LentTables.{mark_values}
use Rattle.sheets.specs.ModelSheet.{marks_on}
use Rattle.reading.proofs.fill_pair.Goals as goal

pub overflow_cast-marks : goal.overflow_cast-marks
overflow_cast-marks c = omega (arith, field_lt c.args.sheet.now.bytes.now c.marks_at-need.result 6)

pub overflow_cast-marks-2 : goal.overflow_cast-marks-2
overflow_cast-marks-2 c = omega (arith, field_lt c.args.sheet.now.bytes.now (c.marks_at-need.result + 6) 6)

pub returns : goal.returns
unfolding puts mark_values marks_on
returns c =
    let s = c.args.sheet.now.bytes.now in
    let q = c.marks_at-need.ensures.at in
    λ k. set (set c.args.marks.now c.args.place (read_at s 6 q c.field.ensures k)) (c.args.place + 1) (read_at s 6 (ap (λ (x : ℕ). x + 6) q) c.field-2.ensures k)
