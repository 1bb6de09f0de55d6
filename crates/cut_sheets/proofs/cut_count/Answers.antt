use Rattle.cut_sheets.proofs.JudgeLaws.{count-below}
use Rattle.cut_sheets.proofs.cut_count.Goals as goal

pub returns-clause-few : goal.returns-clause-few
returns-clause-few c = count-below c.args.s.now c.field.ensures
