use Rattle.std.proofs.Common.{◌∙◌}
use Rattle.fields.proofs.PlaceLaws.{puts_none, puts-next}
use Rattle.sheets.proofs.TableLaws.{column-length}
use Rattle.reading.proofs.fill_frame.Goals as goal

pub loop-i-init : goal.loop-i-init
loop-i-init c = puts_none _ _ _

pub loop-i-preserved : goal.loop-i-preserved
loop-i-preserved c = c.fill_column.ensures ∙ puts-next _ 3 (column-length _) c.loop-i.i _ c.loop-i.invariant
