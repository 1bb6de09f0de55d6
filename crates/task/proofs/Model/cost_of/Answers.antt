use Rattle.task.proofs.TableLaws.{costs-more, cost-of}
use Rattle.task.proofs.LoopLaws.{length-mapped}
use Rattle.task.specs.Tables.{task_of}
use Rattle.task.specs.Task.{costs}
use Rattle.task.specs.Sizes.{most_steps}
use lib.ListN.{length}
use native.Mathlib.Omega.{arith}
use mathlib.Core.Path.{◌≡◌}
use borrow.Author.Rules.{rules}
use Rattle.task.proofs.Model.cost_of.Goals as goal

pub loop-i-init : goal.loop-i-init
unfolding costs
loop-i-init c = search rules

pub bounds-self-at : goal.bounds-self-at
bounds-self-at c = omega (arith, c.requires.1.1 c.loop-i.i c.loop-i-test.true, c.requires.0.steps, c.from-at.ensures)

pub loop-i-preserved : goal.loop-i-preserved
loop-i-preserved c =
    let g = c.args in
    let m = g.self.now in
    let i = c.loop-i.i in
    let l : length g.list ≡ most_steps = search (length-mapped, rules) in
    let k = cost-of m _ (c.requires.1.1 i c.loop-i-test.true) in
    let t = rw c.from-at.ensures at c.tenths-sum.ensures.0 in
    (search rules, omega (arith, costs-more (task_of m) g.list i (omega arith), k, t))

pub returns : goal.returns
returns c =
    let e : c.loop-i.i ≡ c.args.count = omega arith in
    rw e at c.loop-i.invariant.1
