use Rattle.lines.proofs.LineLaws.{row-joined}
use Rattle.lines.proofs.put_row.Goals as goal

pub returns-clause-put : goal.returns-clause-put
returns-clause-put c =
    row-joined c.args.list.now c.args.i _ _ _ c.from.ensures c.from-2.ensures c.from-3.ensures
    c.put_number-a.ensures.put c.put_labelled-b.ensures.put c.put_labelled-c.ensures.put c.put_labelled-d.ensures.put c.put_text.ensures
