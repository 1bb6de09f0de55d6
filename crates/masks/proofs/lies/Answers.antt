use Rattle.blocks.specs.Blocks.{common}
use Rattle.blocks.specs.Masks.{lies}
use borrow.Author.Rules.{rules}
use Rattle.masks.proofs.lies.Goals as goal

pub returns : goal.returns
unfolding lies common
returns c = search rules
