use Rattle.lines.specs.Lines.{first_line}
use Rattle.lines.proofs.LineLaws.{join}
use Rattle.lines.proofs.put_refused.Goals as goal

pub returns : goal.returns
unfolding first_line
returns c = let number = c.from.ensures in join (rw number at c.put_labelled-next.ensures.put) c.put_text.ensures
