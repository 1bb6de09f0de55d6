use mathlib.Core.Path.{◌≡◌, sym}
use Prim.Native.Nat.{◌*◌}
use native.Mathlib.Omega.{arith}
use lib.ListN.{length}
use Rattle.task.specs.Task.{at}
use Rattle.task.specs.Sizes.{limits}
use Rattle.task.proofs.LoopLaws.{length-mapped, over_none, over-more}
use Rattle.task.proofs.TableLaws.{row_moved, taken-row}
use borrow.Author.Rules.{rules}
use Rattle.task.proofs.Model.take.Goals as goal

pub loop-j-init : goal.loop-j-init
loop-j-init c = sym (over_none _ _)

pub loop-j-preserved : goal.loop-j-preserved
unfolding row_moved at
loop-j-preserved c =
    let g = c.args in
    let l : length g.state ≡ limits.columns = search (length-mapped, rules) in
    let e = over-more c.loop-j.j (row_moved g.self.now.effect (c.from-place.result * limits.columns) g.state) g.state (omega (arith, c.requires.0.columns)) in
    rw (c.loop-j.invariant, c.moved.ensures) (sym e)

pub returns : goal.returns
returns c =
    let g = c.args in
    let e : c.loop-j.j ≡ g.self.now.columns = omega arith in
    rw (taken-row g.self.now g.step g.state c.requires.1, ← c.from-place.ensures) (rw e at c.loop-j.invariant)
