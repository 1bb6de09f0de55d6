use mathlib.Core.Path.{refl}
use Rattle.sheets.specs.ModelSheet.{header_part}
use Rattle.fields.specs.Packing.{packed}
use Rattle.fields.proofs.PackingLaws.{put_next}
use Rattle.writing.proofs.put.put_header.Goals as goal

pub returns : goal.returns
unfolding packed header_part
returns c =
    put_next 8 c.put_field-3.ensures refl refl
    (put_next 5 c.put_field-2.ensures refl refl (put_next 4 c.put_field.ensures refl refl refl))
