use Rattle.fields.proofs.ReadLaws.{placed}
use Rattle.sheets.specs.LentTables.{of_tables, column_in}
use Rattle.sheets.proofs.source.ModelTablesModelSource.start.Goals as goal

pub returns : goal.returns
unfolding of_tables column_in
returns c = placed _ _ _ c.place.ensures
