use native.Mathlib.Omega.{arith}
use mathlib.Core.Path.{sym}
use Rattle.task.proofs.LoopLaws.{over_none, over-set, over-end}
use Rattle.unpack.proofs.fill.Goals as goal

pub loop-i-init : goal.loop-i-init
loop-i-init g c f e = sym (over_none _ _)

pub loop-i-preserved : goal.loop-i-preserved
loop-i-preserved g c f e =
    let l = c.loop-i in
    over-set f l.i _ l.table c.args.table.now (l.invariant f e) (omega arith) (e l.i _ (omega arith) c.read.ensures)

pub returns : goal.returns
returns g c f e =
    let l = c.loop-i in
    over-end _ _ l.i c.args.count (omega arith) (omega arith) (l.invariant f e)
