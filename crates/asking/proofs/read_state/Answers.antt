use native.Mathlib.Omega.{arith}
use mathlib.Core.Path.{sym, ap}
use lib.ListN.{length, get_or}
use Rattle.task.specs.Task.{position}
use Rattle.sheets.specs.Holding.{unused}
use Rattle.task.specs.Sizes.{limits}
use Rattle.task.proofs.LoopLaws.{over_none, over-set, over-end}
use Rattle.unpack.proofs.UnpackLaws.{unused-length}
use Rattle.asking.specs.Question.{place_in, state_in, wide_state}
use Rattle.asking.proofs.read_state.Goals as goal

pub loop-j-init : goal.loop-j-init
unfolding unused
loop-j-init c = sym (over_none _ _)

pub loop-j-preserved : goal.loop-j-preserved
unfolding place_in
loop-j-preserved c =
    let b = c.args.bytes.now in
    let l = c.loop-j in
    over-set (place_in (length b) b 0) l.j _ l.state (unused limits.columns (position 0)) l.invariant (omega (arith, unused-length limits.columns (position 0))) (ap (λ i. position (get_or b i 0)) (omega arith))

pub returns : goal.returns
unfolding wide_state state_in
returns c =
    let l = c.loop-j in
    over-end _ _ l.j (length c.args.bytes.now) (omega arith) (omega arith) l.invariant
