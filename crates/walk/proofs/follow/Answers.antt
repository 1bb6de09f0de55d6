use native.Mathlib.Omega.{arith}
use borrow.Author.Rules.{rules}
use mathlib.Core.Path.{◌≡◌, refl, sym, ap, ◌∙◌}
use Prim.Native.Nat.{◌%◌, ◌<◌}
use lib.ListN.{get_or}
use Rattle.task.specs.Sizes.{limits, tenth}
use Rattle.std.specs.Prelude.{Ok, Err, None}
use Rattle.std.proofs.lemmas.Result.{err_from_is_err_and}
use Rattle.blocks.specs.Masks.{lands_in, goals_in}
use Rattle.walk.specs.Walking.{Found, Turn}
use Rattle.walk.proofs.FollowLaws.{going-none, going_more, going-all, going-ended, going-flawed, known-end, known-flawed}
use Rattle.walk.proofs.WalkLaws.{answers}
use Rattle.walk.proofs.follow.Goals as goal

pub loop-i-init : goal.loop-i-init
loop-i-init c = going-none _ _ _ _ _ _ _ _ _ _ _ _ _ c.requires.made (search rules)

pub returns-in_err-next : goal.returns-in_err-next
returns-in_err-next c =
    let g = c.args in
    let t = g.tables.now in
    let b = g.blocks.now in
    let l = c.loop-i in
    let cut = c.in_err-next.field-0.0 in
    let p = err_from_is_err_and c.from_residual.result c.from_residual.ensures.1 in
    let is : ◌≡◌ {A = Found} c.from_residual.result (Err cut) = p.1 ∙ ap {B = Found} Err p.2 in
    let turned = going-flawed t.shape.columns t.shape.steps b.count t.rows (lands_in t.rows) (goals_in t.rows) t.costs b.sets g.dist.now _ _ l.i l.a l.here.sets l.path l.invariant c.hop.result _ c.hop.ensures.turned c.hop.ensures.stands c.loop-i-test.true cut c.in_err-next.was in
    let known = known-flawed t.shape.columns t.shape.steps b.count t.rows (lands_in t.rows) (goals_in t.rows) t.costs b.sets g.dist.now _ _ l.i l.a l.here.sets l.path l.invariant cut in
    let r = answers t b g.dist.now g.«from» g.path.now c.requires.made (search rules) _ _ _
    (rw (c.at_start-here.ensures, c.from.ensures) at (rw (sym is) at turned)) (rw (sym is) at known) in
    record { followed = r.0; known = r.1; right = r.2 }

pub returns-in_default : goal.returns-in_default
returns-in_default c =
    let g = c.args in
    let t = g.tables.now in
    let b = g.blocks.now in
    let l = c.loop-i in
    let none : ◌≡◌ {A = Turn} c.hop.result (Ok None) = c.in_ok-next.was ∙ ap {B = Turn} Ok c.in_default.is in
    let turned = going-ended t.shape.columns t.shape.steps b.count t.rows (lands_in t.rows) (goals_in t.rows) t.costs b.sets g.dist.now _ _ l.i l.a l.here.sets l.path l.invariant c.hop.result _ c.hop.ensures.turned c.hop.ensures.stands c.loop-i-test.true _ none c.arrive.ensures in
    let few : get_or g.dist.now c.from.result 0 % tenth < limits.blocks = rw c.from.ensures c.requires.short in
    let known = known-end t.shape.columns t.shape.steps b.count t.rows (lands_in t.rows) (goals_in t.rows) t.costs b.sets g.dist.now _ _ l.i l.a l.here.sets l.path l.invariant _ _ _ refl c.arrive.ensures (omega arith) in
    let r = answers t b g.dist.now g.«from» g.path.now c.requires.made (search rules) _ _ _
    (rw (c.at_start-here.ensures, c.from.ensures) at turned) known in
    record { followed = r.0; known = r.1; right = r.2 }

pub loop-i-preserved : goal.loop-i-preserved
loop-i-preserved c =
    let g = c.args in
    let t = g.tables.now in
    let b = g.blocks.now in
    let l = c.loop-i in
    let next = c.in_ok-next.was ∙ ap {B = Turn} Ok c.in-Some.is in
    let few : get_or g.dist.now c.from.result 0 % tenth < limits.blocks = rw c.from.ensures c.requires.short in
    going_more t.shape.columns t.shape.steps b.count t.rows (lands_in t.rows) (goals_in t.rows) t.costs b.sets g.dist.now _ _ l.i l.a l.here.sets l.path l.invariant c.hop.result _ c.hop.ensures.turned c.hop.ensures.stands c.loop-i-test.true c.in-Some.next next few

pub returns : goal.returns
returns c =
    let g = c.args in
    let t = g.tables.now in
    let b = g.blocks.now in
    let l = c.loop-i in
    let turned = going-all t.shape.columns t.shape.steps b.count t.rows (lands_in t.rows) (goals_in t.rows) t.costs b.sets g.dist.now _ _ l.i l.a l.here.sets l.path l.invariant _ (omega arith) c.arrive-2.ensures in
    let few : get_or g.dist.now c.from.result 0 % tenth < limits.blocks = rw c.from.ensures c.requires.short in
    let known = known-end t.shape.columns t.shape.steps b.count t.rows (lands_in t.rows) (goals_in t.rows) t.costs b.sets g.dist.now _ _ l.i l.a l.here.sets l.path l.invariant _ _ _ (omega arith) c.arrive-2.ensures (omega arith) in
    let r = answers t b g.dist.now g.«from» g.path.now c.requires.made (search rules) _ _ _
    (rw (c.at_start-here.ensures, c.from.ensures) at turned) known in
    record { followed = r.0; known = r.1; right = r.2 }
