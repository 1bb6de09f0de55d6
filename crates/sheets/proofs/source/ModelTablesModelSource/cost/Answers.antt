use Rattle.fields.proofs.ReadLaws.{placed}
use Rattle.sheets.specs.LentTables.{of_tables}
use Rattle.sheets.proofs.source.ModelTablesModelSource.cost.Goals as goal

pub returns : goal.returns
unfolding of_tables
returns c = placed _ _ _ c.place.ensures
