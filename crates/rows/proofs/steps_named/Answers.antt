use Rattle.std.proofs.Common.{sym, get_or, ◌*◌, le-ltb, lt-ltb}
use Rattle.task.specs.Sizes.{limits}
use Rattle.task.proofs.LoopLaws.{all_more, all-fails}
use Rattle.rows.specs.Rows.{steps_named}
use Rattle.rows.proofs.steps_named.Goals as goal

pub returns-then-values-i : goal.returns-then-values-i
unfolding steps_named
returns-then-values-i c = sym (all-fails c.args.n _ c.loop-i.i c.loop-i-test.true (le-ltb (get_or c.args.values.now (c.loop-i.i * 3) 0) limits.steps c.if-values-i.true))

pub loop-i-preserved : goal.loop-i-preserved
unfolding steps_named
loop-i-preserved c = all_more c.loop-i.i _ c.loop-i.invariant (lt-ltb (get_or c.args.values.now (c.loop-i.i * 3) 0) limits.steps c.if-values-i.false)
