use Prim.Native.Nat.{◌+◌, ◌*◌, ◌≤◌}
use native.Mathlib.Omega.{arith}
use mathlib.Core.Path.{sym, ap, ◌∙◌}
use lib.ListN.{length, length-append}
use borrow.Author.Rules.{rules}
use Rattle.task.proofs.LoopLaws.{over_none, over-set}
use Rattle.asking.specs.Question.{cost_found}
use Rattle.asking.proofs.PartLaws.{turn, end, below}
use Rattle.asking.proofs.StateLaws.{cost_at, state-read, wide-small}
use Rattle.asking.proofs.fill_estimates.Goals as goal

pub loop-k-init : goal.loop-k-init
loop-k-init c = record { stands = record { count = search rules; size = search rules; rest = search rules; within = search rules }; told = sym (over_none _ _) }

pub find_cost-requires : goal.find_cost-requires
find_cost-requires c =
    let g = c.args in
    let p = c.requires in
    let k = length c.loop-k.yielded in
    let w = turn g.columns g.states.now {t = c.next.new.self} c.loop-k.invariant.stands c.in-Some.bytes c.in-Some.ensures.steps in
    let r : k * g.columns + g.columns ≤ length g.states.now = omega (arith, w.next.within) in
    (p.0, record { each = λ i h. rw (c.read_state-state.ensures ∙ state-read g.columns g.states.now k w.is w.long) (wide-small g.columns g.states.now k r p.1.small _ (p.1.there i h)) })

pub loop-k-preserved : goal.loop-k-preserved
loop-k-preserved c =
    let g = c.args in
    let l = c.loop-k in
    let k = length l.yielded in
    let w = turn g.columns g.states.now {t = c.next.new.self} l.invariant.stands c.in-Some.bytes c.in-Some.ensures.steps in
    let b = below g.columns k (length g.states.now) c.requires.1.some w.next.within in
    let r = c.find_cost.ensures ∙ ap (cost_found g.dist.now g.cuts.now g.count) (c.read_state-state.ensures ∙ state-read g.columns g.states.now k w.is w.long) in
    record {
      stands = rw length-append w.next;
      told = rw (w.here, length-append) (over-set (cost_at g.columns g.count g.cuts.now g.dist.now g.states.now) k _ l.estimates g.estimates.now l.invariant.told (omega (arith, b, c.requires.1.room)) r);
    }

pub returns : goal.returns
returns c =
    let g = c.args in
    rw (← end g.columns g.states.now c.loop-k.invariant.stands c.in-None.ensures.steps) c.loop-k.invariant.told
