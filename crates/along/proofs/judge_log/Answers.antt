use native.Mathlib.Omega.{arith}
use borrow.Author.Rules.{rules}
use mathlib.Core.Path.{◌≡◌}
use lib.ListN.{length}
use Rattle.blocks.specs.Masks.{lands_in}
use Rattle.along.proofs.TurnLaws.{here-none, here-more, small, stopped, went, through}
use Rattle.task.proofs.LoopLaws.{first-nothing}
use Rattle.along.proofs.judge_log.Goals as goal

pub loop-i-init : goal.loop-i-init
loop-i-init c = (here-none _ _ _ _, first-nothing _)

pub returns-then-not-may_go : goal.returns-then-not-may_go
returns-then-not-may_go c =
    let g = c.args in
    let l = c.loop-i in
    stopped g.tables.now.shape.columns g.tables.now.shape.steps g.tables.now.rows (lands_in g.tables.now.rows) g.log.now g.here.now.sets l.i c.loop-i-test.true l.invariant.1 l.invariant.0 c.may_go.ensures
    c.if-not-may_go.true

pub overflow_cast-s : goal.overflow_cast-s
overflow_cast-s c =
    let g = c.args in
    let k = small g.tables.now.shape.columns g.tables.now.shape.steps g.tables.now.rows c.loop-i.here.sets _ c.may_go.ensures c.if-not-may_go.false in
    search (rules, k)

pub take-requires : goal.take-requires
take-requires c =
    let g = c.args in
    let k = small g.tables.now.shape.columns g.tables.now.shape.steps g.tables.now.rows c.loop-i.here.sets _ c.may_go.ensures c.if-not-may_go.false in
    search (rules, k)

pub loop-i-preserved : goal.loop-i-preserved
loop-i-preserved c =
    let g = c.args in
    let l = c.loop-i in (
      here-more g.tables.now.shape.columns (lands_in g.tables.now.rows) g.log.now g.here.now.sets l.i l.invariant.0 c.take.ensures,
      went g.tables.now.shape.columns g.tables.now.shape.steps g.tables.now.rows (lands_in g.tables.now.rows) g.log.now g.here.now.sets l.i l.invariant.1 l.invariant.0 c.may_go.ensures c.if-not-may_go.false,
    )

pub returns : goal.returns
returns c =
    let g = c.args in
    let l = c.loop-i in
    let e : l.i ≡ length g.log.now = omega arith in
    through g.tables.now.shape.columns g.tables.now.shape.steps g.tables.now.rows (lands_in g.tables.now.rows) g.log.now g.here.now.sets (rw e at l.invariant.1)
