use Prim.Native.Nat.{ℕ, ◌+◌, ◌*◌}
use mathlib.Core.Path.{refl, ap, ◌∙◌}
use lib.ListN.{get_or}
use Rattle.fields.specs.Packing.{packed}
use Rattle.fields.proofs.PackingLaws.{put_next}
use Rattle.fields.proofs.ReadLaws.{placed-or}
use Rattle.sheets.specs.ModelSheet.{marks_part}
use Rattle.sheets.specs.LentTables.{of_tables, marks_in}
use Rattle.writing.proofs.put.put_marks.Goals as goal

pub returns : goal.returns
unfolding packed marks_part of_tables marks_in
returns c =
    let i = c.args.i in
    let t = c.args.tables.now.marks.now in
    let q = c.model_bits.ensures.0 in
    let row = c.marks_at-row.ensures.at in
    put_next 6 c.put_field-2.ensures (ap (λ (x : ℕ). x + 16 + i * 12 + 6) q) (c.unwrap_or-2.ensures ∙ placed-or _ _ _ c.place-2.ensures ∙ ap (λ (x : ℕ). get_or t (x + 1) 0) row)
    (put_next 6 c.put_field.ensures (ap (λ (x : ℕ). x + 16 + i * 12) q) (c.unwrap_or.ensures ∙ placed-or _ _ _ c.place.ensures ∙ ap (λ (x : ℕ). get_or t x 0) row) refl)
