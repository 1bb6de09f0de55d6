use Rattle.std.proofs.Common.{◌*◌, ◌∙◌}
use Rattle.fields.proofs.PlaceLaws.{puts_none, puts-next}
use Rattle.sheets.proofs.TableLaws.{row-length}
use Rattle.sheets.specs.LentTables.{step_values}
use Rattle.sheets.specs.ModelSheet.{marks_on}
use Rattle.reading.proofs.fill_marks.Goals as goal

pub loop-j-init : goal.loop-j-init
loop-j-init c = puts_none _ _ _

pub loop-j-preserved : goal.loop-j-preserved
loop-j-preserved c =
    let n = c.args.sheet.now.shape.columns in
    let k = marks_on c.args.sheet.now.bytes.now n in
    c.fill_step.ensures ∙ puts-next (step_values k n) (n * 2) (row-length k n) c.loop-j.j c.args.marks.now c.loop-j.invariant
