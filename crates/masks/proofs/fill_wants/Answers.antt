use lib.ListN.{length}
use Rattle.blocks.proofs.FlatLaws.{laid_none, laid-set}
use Rattle.blocks.specs.Masks.{want_set}
use native.Mathlib.Omega.{arith}
use mathlib.Core.Path.{◌≡◌, sym}
use Rattle.masks.proofs.fill_wants.Goals as goal

pub loop-i-init : goal.loop-i-init
loop-i-init c = sym (laid_none _ _ _)

pub loop-i-preserved : goal.loop-i-preserved
unfolding want_set
loop-i-preserved c = laid-set _ _ _ c.loop-i.i _ _ c.loop-i.invariant (omega arith) c.set_of.ensures

pub returns : goal.returns
returns c = let e : c.loop-i.i ≡ length c.args.wanted.now = omega arith in rw e at c.loop-i.invariant
