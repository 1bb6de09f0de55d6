use Rattle.lines.proofs.LineLaws.{text_put}
use Rattle.lines.proofs.put_text.Goals as goal

pub returns : goal.returns
returns c = text_put c.args.text.now c.args.out.now c.args.at c.requires c.copy_from_slice.ensures.after
