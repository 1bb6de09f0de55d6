use Prim.Native.Nat.{◌+◌}
use mathlib.Core.Path.{refl, ap, ◌∙◌}
use native.Mathlib.Omega.{arith}
use Rattle.fields.specs.Judging.{each}
use Rattle.fields.specs.Packing.{packed}
use Rattle.fields.proofs.PackingLaws.{packed_none, packed_more, packed-end, put_next}
use Rattle.fields.proofs.ReadLaws.{placed-or}
use Rattle.sheets.proofs.HoldLaws.{marks-bits}
use Rattle.sheets.specs.LentTables.{of_tables}
use Rattle.sheets.specs.ModelSheet.{model_bits, marks_part, step_part}
use Rattle.writing.specs.Writing.{lent}
use Rattle.writing.proofs.put.put_step.Goals as goal

pub loop-i-init : goal.loop-i-init
loop-i-init c = packed_none _ _ _

pub loop-i-preserved : goal.loop-i-preserved
loop-i-preserved c =
    let a = c.args in
    let p = lent a.tables.now in
    c.put_marks.ensures ∙ packed_more (marks_part p.column p.marks a.j) 12 (marks-bits p.column p.marks a.j) (model_bits a.tables.now.shape.columns a.j + 16) c.loop-i.i _ c.loop-i.invariant

pub returns : goal.returns
unfolding packed step_part of_tables
returns c =
    let a = c.args in
    let n = a.tables.now.shape.columns in
    let at = model_bits n a.j + 16 in
    let p = lent a.tables.now in
    packed-end at (marks_part p.column p.marks a.j) _ c.loop-i.i n (omega arith) (omega arith) c.loop-i.invariant
    ∙ ap (packed at (each n (marks_part p.column p.marks a.j))) (put_next 16 c.put_field.ensures c.model_bits-at.ensures.0 (c.unwrap_or.ensures ∙ placed-or _ _ _ c.place.ensures) refl)
