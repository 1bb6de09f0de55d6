use Rattle.std.proofs.Common.{ℕ, ◌≡◌, ◌+◌, ◌*◌, set, arith, ap}
use Rattle.fields.proofs.FieldLaws.{field_lt, read_at}
use Rattle.fields.specs.Places.{puts}
use Rattle.sheets.specs.LentTables.{column_values}
use Rattle.sheets.specs.ModelSheet.{column_on}
use Rattle.reading.proofs.fill_column.Goals as goal

pub overflow_cast-frame : goal.overflow_cast-frame
overflow_cast-frame c = omega (arith, field_lt c.args.s.now c.column_bits-at.result 6)

pub overflow_cast-frame-2 : goal.overflow_cast-frame-2
overflow_cast-frame-2 c = omega (arith, field_lt c.args.s.now (c.column_bits-at.result + 6) 5)

pub overflow_cast-frame-3 : goal.overflow_cast-frame-3
overflow_cast-frame-3 c = omega (arith, field_lt c.args.s.now (c.column_bits-at.result + 6 + 5) 6)

pub returns : goal.returns
unfolding puts column_values column_on
returns c =
    let a = c.args in
    let s = a.s.now in
    let q = c.column_bits-at.ensures.0 in
    let last : a.i * 3 + 2 ≡ a.i * 3 + 1 + 1 = omega arith in
    λ k.
    set
    (set (set a.frame.now (a.i * 3) (read_at s 6 q c.field.ensures k)) (a.i * 3 + 1) (read_at s 5 (ap (λ (x : ℕ). x + 6) q) c.field-2.ensures k))
    (last k) (read_at s 6 (ap (λ (x : ℕ). x + 6 + 5) q) c.field-3.ensures k)
