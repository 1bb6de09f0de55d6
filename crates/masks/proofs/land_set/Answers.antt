use mathlib.Core.Path.{refl}
use Rattle.blocks.specs.Masks.{land_set}
use Rattle.masks.proofs.land_set.Goals as goal

pub returns-in-Some : goal.returns-in-Some
unfolding land_set
returns-in-Some c = let e = c.in-Some.is in let s = c.set_of.ensures in λ n h. rw (s, e) refl

pub returns-in-None : goal.returns-in-None
unfolding land_set
returns-in-None c = let e = c.in-None.is in λ n h. rw (h, e) refl
