use Prim.Native.Nat.{ℕ, ◌+◌}
use mathlib.Core.Path.{refl, ap}
use Rattle.fields.specs.Packing.{packed}
use Rattle.cut_sheets.specs.CutPart.{cut_part}
use Rattle.cut_sheets.specs.CutSheet.{cut_lent}
use Rattle.fields.proofs.PackingLaws.{put_next}
use Rattle.cut_writing.proofs.put_cut.Goals as goal

pub returns : goal.returns
unfolding packed cut_part cut_lent
returns c =
    let q = c.cut_bits-at.ensures.place in
    λ t.
    put_next 32 c.put_field-3.ensures (ap (λ (x : ℕ). x + 8 + 4) q) refl
    (put_next 4 c.put_field-2.ensures (ap (λ (x : ℕ). x + 8) q) refl (put_next 8 c.put_field.ensures q refl refl))
