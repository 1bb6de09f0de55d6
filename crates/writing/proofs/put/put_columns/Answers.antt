use mathlib.Core.Path.{◌∙◌}
use Rattle.fields.proofs.PackingLaws.{packed_none, packed_more}
use Rattle.sheets.proofs.HoldLaws.{column-bits}
use Rattle.sheets.specs.LentTables.{of_tables, column_in}
use Rattle.sheets.specs.ModelSheet.{column_part}
use Rattle.writing.proofs.put.put_columns.Goals as goal

pub loop-i-init : goal.loop-i-init
loop-i-init c = packed_none _ _ _

pub loop-i-preserved : goal.loop-i-preserved
unfolding of_tables
loop-i-preserved c =
    let f = column_in c.args.tables.now.frame.now in
    c.put_column.ensures ∙ packed_more (column_part f) 17 (column-bits f) 17 c.loop-i.i c.args.out.now c.loop-i.invariant
