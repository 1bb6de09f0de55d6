use Rattle.task.specs.Task.{column}
use Rattle.task.proofs.TableLaws.{columns-of, size-of}
use mathlib.Core.Path.{◌≡◌, sym}
use native.Mathlib.Omega.{arith}
use Rattle.task.proofs.LoopLaws.{over_none, over-set}
use Rattle.cutting.proofs.FirstLaws.{first_set, first-whole}
use Rattle.cutting.proofs.Blocks.fill_first.Goals as goal

pub loop-j-init : goal.loop-j-init
loop-j-init c = (rw columns-of at c.requires.columns.1, sym (over_none _ _))

pub every_position-requires : goal.every_position-requires
every_position-requires c =
    let p = c.requires in
    let j = column c.loop-j.j in
    rw (size-of c.args.model.now j c.loop-j-test.true) at (p.sizes j (rw columns-of c.loop-j-test.true)).1

pub loop-j-preserved : goal.loop-j-preserved
unfolding first_set
loop-j-preserved c =
    let l = c.loop-j in
    let g = c.args in
    (l.invariant.0, over-set (first_set g.model.now) l.j _ l.self.sets g.self.now.sets l.invariant.1 (omega arith) c.every_position.ensures)

pub returns-clause-every : goal.returns-clause-every
returns-clause-every c =
    let l = c.loop-j in
    let m = c.args.model.now in
    let e : l.j ≡ m.columns = omega arith in
    rw (← first-whole m) (rw e at l.invariant.1)
