use Prim.Native.Nat.{ℕ, ◌+◌}
use mathlib.Core.Path.{refl, ap, ◌∙◌}
use Rattle.sheets.specs.LentTables.{column_in}
use Rattle.sheets.specs.ModelSheet.{column_part}
use Rattle.fields.specs.Packing.{packed}
use Rattle.fields.proofs.PackingLaws.{put_next}
use Rattle.fields.proofs.ReadLaws.{placed-or}
use Rattle.writing.proofs.put.put_column.Goals as goal

pub returns : goal.returns
unfolding packed column_part column_in
returns c =
    let q = c.column_bits-at.ensures.0 in
    put_next 6 c.put_field-3.ensures (ap (λ (x : ℕ). x + 6 + 5) q) (c.unwrap_or-3.ensures ∙ placed-or _ _ _ c.place-3.ensures)
    (put_next 5 c.put_field-2.ensures (ap (λ (x : ℕ). x + 6) q) (c.unwrap_or-2.ensures ∙ placed-or _ _ _ c.place-2.ensures)
    (put_next 6 c.put_field.ensures q (c.unwrap_or.ensures ∙ placed-or _ _ _ c.place.ensures) refl))
