use native.Mathlib.Omega.{arith}
use borrow.Author.Rules.{rules}
use Prim.Native.Nat.{◌+◌, ◌<◌}
use mathlib.Core.Path.{◌≡◌, sym}
use lib.ListN.{length}
use Rattle.task.specs.Sizes.{limits}
use Rattle.blocks.specs.Masks.{lands_in}
use Rattle.task.proofs.LoopLaws.{over_none, over-set}
use Rattle.along.proofs.TurnLaws.{here-none, here-more, cost-after}
use Rattle.along.proofs.fill_along.Goals as goal

pub loop-i-init : goal.loop-i-init
loop-i-init c = (here-none _ _ _ _, sym (over_none _ _))

pub find_cost-requires : goal.find_cost-requires
find_cost-requires c = record { measured = c.requires.measured; placed = λ i h. tt }

pub find_cost-requires-2 : goal.find_cost-requires-2
find_cost-requires-2 c = record { measured = c.requires.measured; placed = λ i h. tt }

pub loop-i-preserved : goal.loop-i-preserved
loop-i-preserved c =
    let g = c.args in
    let l = c.loop-i in
    let i : l.i < limits.log + 1 = omega (arith, c.requires.long) in (
      here-more g.tables.now.shape.columns (lands_in g.tables.now.rows) g.log.now g.here.now.sets l.i l.invariant.0 c.take.ensures,
      over-set _ l.i _ l.estimates g.estimates.now l.invariant.1 (search (i, rules))
          (cost-after g.tables.now.shape.columns (lands_in g.tables.now.rows) g.count g.cuts.now g.dist.now g.log.now g.here.now.sets l.i l.invariant.0 c.find_cost.ensures),
    )

pub returns : goal.returns
returns c =
    let g = c.args in
    let l = c.loop-i in
    let n = length g.log.now in
    let e : l.i ≡ n = omega arith in
    let i : n < limits.log + 1 = omega (arith, c.requires.long) in
    over-set _ n _ l.estimates g.estimates.now (rw e at l.invariant.1) (search (i, rules))
    (cost-after g.tables.now.shape.columns (lands_in g.tables.now.rows) g.count g.cuts.now g.dist.now g.log.now g.here.now.sets n (rw e at l.invariant.0) c.find_cost-2.ensures)
