use mathlib.Core.Path.{ap, ◌∙◌}
use borrow.Author.Rules.{rules}
use Rattle.standing.specs.Standing.{cut_by}
use Rattle.standing.proofs.RowLaws.{row-rest}
use Rattle.standing.proofs.Standing.row_cut.Goals as goal

pub returns : goal.returns
returns c =
    let g = c.args in
    c.cut_for.ensures ∙ ap (cut_by g.tables.now.shape.columns g.blocks.now.sets g.self.now.sets g.a) (row-rest g.tables.now.rows (search rules) g.row)
