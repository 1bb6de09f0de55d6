use Rattle.lines.proofs.LineLaws.{joined}
use Rattle.lines.proofs.put_labelled.Goals as goal

pub returns-clause-put : goal.returns-clause-put
returns-clause-put c = joined c.args.text.now c.args.n c.put_text-next.ensures c.put_number.ensures.put
