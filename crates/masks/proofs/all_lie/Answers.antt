use borrow.Author.Rules.{rules}
use Prim.Native.Nat.{ℕ}
use Rattle.task.proofs.RangeLaws.{all-ran}
use Rattle.blocks.specs.Flat.{past}
use Rattle.blocks.specs.Masks.{lies, all_lie}
use Rattle.masks.proofs.all_lie.Goals as goal

pub returns : goal.returns
unfolding all_lie past
returns c = let g = c.args in all-ran (λ (j : ℕ). lies (past g.wants.now g.i j) (past g.sets.now g.k j)) c.all.ensures.ran (λ x q k. search rules) (λ x q k. search rules)
