use native.Mathlib.Omega.{arith}
use mathlib.Core.Path.{refl, sym, ◌∙◌}
use Rattle.trace.specs.Hops.{hop_of}
use Rattle.trace.proofs.HopLaws.{passed, none_fits, unfit, fit_here, none-at-all, answers}
use Rattle.task.proofs.LoopLaws.{first-nothing}
use Rattle.trace.proofs.next_hop.Goals as goal

pub steps-init : goal.steps-init
steps-init c = (refl, first-nothing _)

pub steps-preserved-then-not-may_take : goal.steps-preserved-then-not-may_take
steps-preserved-then-not-may_take c =
    let g = c.args in
    let l = c.steps in
    (l.invariant.0, passed g.tables.now g.blocks.now g.dist.now g.a.0 l.s l.invariant.1 (rw c.from-from.ensures at (sym c.may_take.ensures ∙ c.if-not-may_take.true)))

pub loop-b-init : goal.loop-b-init
loop-b-init c = (c.steps.invariant.0, first-nothing _)

pub loop-b-preserved : goal.loop-b-preserved
loop-b-preserved c =
    let g = c.args in
    let l = c.loop-b in
    let may = rw c.from-from.ensures at (sym c.may_take.ensures ∙ c.if-not-may_take.false) in
    let left = rw c.from-from.ensures at c.after-rest.ensures in
    (l.invariant.0, unfit g.tables.now g.blocks.now g.dist.now g.a.0 c.steps.s l.b _ may left c.fits.ensures l.invariant.1 c.if-fits.false)

pub steps-preserved : goal.steps-preserved
steps-preserved c =
    let g = c.args in
    let l = c.loop-b in
    (l.invariant.0, none_fits g.tables.now g.blocks.now g.dist.now g.a.0 c.steps.s c.steps.invariant.1 (omega arith) l.invariant.1)

pub returns-after-steps-clause-searched : goal.returns-after-steps-clause-searched
unfolding hop_of
returns-after-steps-clause-searched c =
    let g = c.args in
    let l = c.steps in
    rw l.invariant.0 (sym (none-at-all g.tables.now g.blocks.now g.dist.now g.a.0 (omega arith) l.invariant.1))

pub returns-after-steps-clause-right : goal.returns-after-steps-clause-right
returns-after-steps-clause-right c =
    let g = c.args in
    answers g.tables.now g.blocks.now g.dist.now g.a _ c.requires (returns-after-steps-clause-searched c)

pub returns-then-fits-clause-searched : goal.returns-then-fits-clause-searched
unfolding hop_of
returns-then-fits-clause-searched c =
    let g = c.args in
    let l = c.loop-b in
    let s = c.steps in
    let may = rw c.from-from.ensures at (sym c.may_take.ensures ∙ c.if-not-may_take.false) in
    let left = rw c.from-from.ensures at c.after-rest.ensures in
    sym (fit_here g.tables.now g.blocks.now g.dist.now g.a.0 s.s l.b _ may left c.fits.ensures c.steps-test.true c.loop-b-test.true s.invariant.1
    l.invariant.1
    c.if-fits.true)

pub returns-then-fits-clause-right : goal.returns-then-fits-clause-right
returns-then-fits-clause-right c =
    let g = c.args in
    answers g.tables.now g.blocks.now g.dist.now g.a _ c.requires (returns-then-fits-clause-searched c)
