use native.Mathlib.Omega.{arith}
use mathlib.Core.Path.{◌≡◌, sym, ◌∙◌}
use Prim.Native.Nat.{◌*◌}
use lib.ListN.{get_or}
use Rattle.blocks.proofs.FollowLaws.{by-none, by-on, by-other, by-unwanted}
use Rattle.cutting.proofs.follow.Goals as goal
use Rattle.cutting.proofs.follow.Goals.{then-cuts-i+then-has, else-cuts-i, else-cuts-i-via-then-cuts-i+else-has, else-cuts-i-via-else-cuts-i}

pub loop-i-init : goal.loop-i-init
loop-i-init g c = (omega arith, by-none _ _)

pub loop-i-preserved : goal.loop-i-preserved
loop-i-preserved g c =
    let l = c.loop-i in
    let x = c.args.state.now in
    let s = c.args.cuts.now in
    let has = g.S.Followed.has_of x in
    let b = l.invariant.1 in
    elim c.if-cuts-i.branch [
      | then-cuts-i+then-has w ↦ (omega (arith, w.a-is), w.a-is ∙ by-on has s l.i l.a b (omega (arith, w.if-cuts-i.true, c.from.ensures)) (sym w.has.ensures ∙ w.if-has.true))
      | else-cuts-i w ↦ (
        omega (arith, w.a-is),
        w.a-is ∙ (elim w.else-cuts-i.branch [
          | else-cuts-i-via-then-cuts-i+else-has v ↦ by-unwanted has s l.i l.a b (sym v.has.ensures ∙ v.if-has.false)
          | else-cuts-i-via-else-cuts-i v ↦ by-other has s l.i l.a b (λ (e : get_or s (l.i * 3) 0 ≡ l.a). v.if-cuts-i.false (e ∙ sym c.from.ensures))
        ]),
      )
    ]

pub returns-clause-followed : goal.returns-clause-followed
returns-clause-followed g c = let e : c.loop-i.i ≡ c.args.count = omega arith in rw e at c.loop-i.invariant.1
