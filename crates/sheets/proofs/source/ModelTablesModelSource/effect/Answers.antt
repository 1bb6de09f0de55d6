use Rattle.fields.proofs.ReadLaws.{placed}
use Rattle.sheets.specs.LentTables.{of_tables, marks_in}
use Rattle.sheets.proofs.source.ModelTablesModelSource.effect.Goals as goal

pub returns : goal.returns
unfolding of_tables marks_in
returns c = rw c.marks_at.ensures.at at (placed _ _ _ c.place.ensures)
