use Rattle.rows.proofs.RowRunLaws.{told-in}
use Rattle.rows.proofs.run_for.Goals as goal

pub returns : goal.returns
returns c =
    let g = c.args in
    told-in g.sheet.now g.room g.places g.cuts.now g.values.now c.told-values c.min-n.ensures c.run.ensures
