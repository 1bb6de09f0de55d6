use native.Mathlib.Omega.{arith}
use mathlib.Core.Path.{refl}
use Prim.Native.Nat.{◌≤◌}
use lib.ListN.{length}
use Rattle.std.proofs.lemmas.List.{length-take-le}
use Rattle.running.proofs.RowLaws.{taken, taken-known, taken-costed}
use Rattle.task.specs.Loops.{over}
use Rattle.run.specs.Run.{rows_of}
use Rattle.run.specs.Listing.{listed}
use Rattle.refining.specs.Refining.{answer_of, blocks_told, KnownEnd, StepsFit}
use Rattle.running.specs.Running.{PathCosts, returned}
use Rattle.running.proofs.RunningLaws.{plan-told}
use Rattle.running.proofs.tell.Goals as goal

pub shared_ref_as_front-fill_rows : goal.shared_ref_as_front-fill_rows
unfolding KnownEnd
shared_ref_as_front-fill_rows c = let k = rw c.in-Plan.is at c.requires.known in omega (arith, k.0)

pub fill_rows-cost-requires : goal.fill_rows-cost-requires
unfolding KnownEnd StepsFit
fill_rows-cost-requires c =
    let p = c.requires in
    let e = c.in-Plan.is in
    let k = rw e at p.known in
    let f = rw e at p.room in
    let n = c.in-Plan.steps in
    let h : n ≤ length c.args.path.now = omega (arith, k.0) in
    let w = length-take-le n c.args.path.now h in
    record { few = omega (arith, w, k.0); room = omega (arith, w, f); known = taken-known n _ h k.1 }

pub returns-in-Plan : goal.returns-in-Plan
unfolding PathCosts KnownEnd returned answer_of blocks_told rows_of
returns-in-Plan c =
    λ t a.
    let e = c.in-Plan.is in
    let k = rw e at c.requires.known in
    let n = c.in-Plan.steps in
    let h : n ≤ length c.args.path.now = omega (arith, k.0) in
    let r = rw (taken n c.args.path.now h) at (c.fill_rows-cost.ensures t (taken-costed n _ h t _ (rw e at a))) in
    rw e (plan-told t _ _ _ _ r)

pub returns-in-NoPlan : goal.returns-in-NoPlan
unfolding returned answer_of blocks_told rows_of over listed
returns-in-NoPlan c = λ t a. let e = c.in-NoPlan.is in rw e (refl, refl)

pub returns-in-Open : goal.returns-in-Open
unfolding returned answer_of blocks_told rows_of over listed
returns-in-Open c = λ t a. let e = c.in-Open.is in rw e (refl, refl)
