use Rattle.walk.specs.Walking.{follow_by}
use Rattle.walk.proofs.FollowLaws.{Going}
use Rattle.blocks.specs.Masks.{lands_in, goals_in}
use Rattle.walk.proofs.follow.Given as goal

abbrev pub invariant-loop-i : goal.invariant-loop-i
invariant-loop-i l =
    let t = l.tables in
    let b = l.blocks in
    Going t.shape.columns t.shape.steps b.count t.rows (lands_in t.rows) (goals_in t.rows) t.costs b.sets l.dist l.hops
    (follow_by t.shape.columns t.shape.steps b.count t.rows (lands_in t.rows) (goals_in t.rows) t.costs b.sets l.dist l.hops 0 l.initial.a l.initial.here.sets l.initial.path)
    l.i l.a l.here.sets l.path
