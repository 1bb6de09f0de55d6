use Rattle.std.proofs.Common.{◌*◌, ◌∙◌, arith}
use Rattle.fields.proofs.PlaceLaws.{puts_none, puts-more, puts-end}
use Rattle.sheets.proofs.TableLaws.{pair-length}
use Rattle.sheets.specs.LentTables.{mark_values, step_values}
use Rattle.sheets.specs.ModelSheet.{marks_on}
use Rattle.reading.proofs.fill_step.Goals as goal

pub loop-i-init : goal.loop-i-init
loop-i-init c = puts_none _ _ _

pub loop-i-preserved : goal.loop-i-preserved
loop-i-preserved c =
    let a = c.args in
    let k = marks_on a.sheet.now.bytes.now a.sheet.now.shape.columns in
    c.fill_pair.ensures ∙ puts-more (mark_values k a.j) 2 (pair-length k a.j) (a.j * (a.sheet.now.shape.columns * 2)) c.loop-i.i a.marks.now c.loop-i.invariant

pub returns : goal.returns
unfolding step_values
returns c = puts-end _ _ _ c.loop-i.i c.args.sheet.now.shape.columns (omega arith) (omega arith) c.loop-i.invariant
