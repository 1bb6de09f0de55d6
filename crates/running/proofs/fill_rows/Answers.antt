use Prim.Native.Nat.{◌-◌}
use native.Mathlib.Omega.{arith}
use mathlib.Core.Path.{ap, ◌∙◌}
use lib.ListN.{get_or}
use borrow.Author.Rules.{rules}
use Rattle.running.proofs.RowLaws.{rows_none, rows_more, rows_end}
use Rattle.running.proofs.fill_rows.Goals as goal

pub loop-i-init : goal.loop-i-init
loop-i-init c = rows_none c.args.path.now c.args.cost.now c.args.list.now

pub loop-i-preserved : goal.loop-i-preserved
loop-i-preserved c =
    let g = c.args in
    let i = c.loop-i.i - 1 in
    rw c.from-in-loop-i.ensures
    (rows_more g.path.now g.cost.now g.list.now i c.loop-i.invariant (omega arith) (omega arith) c.from-paid.result
    (c.from-paid.ensures ∙ ap (λ k. get_or g.cost.now k 0) c.from.ensures) (search rules))

pub returns : goal.returns
returns c =
    let g = c.args in
    rows_end g.path.now g.cost.now g.list.now c.loop-i.i c.loop-i.invariant (omega arith) c.requires.room
