use mathlib.Core.Path.{refl}
use borrow.Author.Tests.{lt-ltb, le-ltb}
use Rattle.std.proofs.lemmas.Bool.{lt-leb}
use Rattle.trace.specs.Hops.{may_take}
use Rattle.trace.proofs.may_take.Goals as goal

pub returns-then-weigh-dist : goal.returns-then-weigh-dist
unfolding may_take
returns-then-weigh-dist c = rw (le-ltb _ _ (rw c.weigh.ensures.0 at c.if-weigh-dist.true)) c.fits_in.ensures

pub returns-else-weigh-dist : goal.returns-else-weigh-dist
unfolding may_take
returns-else-weigh-dist c = rw (lt-leb _ _ c.if-weigh-dist.false, lt-ltb _ _ (rw c.weigh.ensures.0 at c.if-weigh-dist.false)) refl
