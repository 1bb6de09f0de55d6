use Rattle.std.proofs.Common.{sym, ap, ◌∙◌, List, ◌++◌, length-take-le, drop, arith}
use Rattle.task.proofs.LoopLaws.{over_none, over-set, over-end}
use Rattle.values.specs.Values.{value_on}
use Rattle.values.proofs.ValueLaws.{over-front}
use Rattle.values.proofs.get_values.Goals as goal

pub loop-k-init : goal.loop-k-init
loop-k-init c = sym (over_none (value_on c.args.bytes.now) _)

pub loop-k-preserved : goal.loop-k-preserved
loop-k-preserved c = over-set (value_on c.args.bytes.now) c.loop-k.k _ _ _ c.loop-k.invariant (omega arith) c.get_value.ensures

pub returns : goal.returns
returns c =
    let g = c.args in
    let f = value_on g.bytes.now in
    let n = length-take-le g.n g.values.now c.requires.room in
    ap (λ (x : List _). x ++ drop g.n g.values.now) (over-end f _ c.loop-k.k g.n (omega arith) (omega (arith, n)) c.loop-k.invariant)
    ∙ over-front f g.n g.values.now c.requires.room
