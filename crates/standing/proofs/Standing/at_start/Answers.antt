use Rattle.standing.proofs.StartLaws.{start-copied}
use borrow.Author.Rules.{rules}
use Rattle.standing.proofs.Standing.at_start.Goals as goal

pub returns : goal.returns
returns c = start-copied c.args.tables.now.rows (search rules) c.copy_from_slice.ensures.after
