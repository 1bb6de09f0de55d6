use mathlib.Core.Path.{sym, ap, ◌∙◌}
use mathlib.Core.List.{List, ◌++◌}
use lib.ListN.{length, get_or, take, drop}
use Rattle.std.proofs.Common.{length-take-le}
use Rattle.standing.specs.Standing.{landed}
use Prim.Native.Nat.{ℕ, ◌+◌, ◌≤◌}
use native.Mathlib.Omega.{arith}
use borrow.Author.Rules.{rules}
use Rattle.task.proofs.LoopLaws.{over_none, over-end}
use Rattle.blocks.specs.Flat.{past, row_of}
use Rattle.task.specs.Sizes.{lands_row}
use Rattle.standing.proofs.RowLaws.{landed-over, landed-row, taken-rows}
use Rattle.standing.proofs.Standing.take.Goals as goal

pub loop-j-init : goal.loop-j-init
loop-j-init c = sym (over_none _ _)

pub loop-j-preserved : goal.loop-j-preserved
unfolding past
loop-j-preserved c =
    let l = c.loop-j in
    let g = c.args in
    landed-over (past g.tables.now.rows (row_of (lands_row + c.from.result))) l.j _ l.set-items (take g.tables.now.shape.columns g.self.now.sets) l.invariant (omega arith) c.landed.ensures

pub returns : goal.returns
returns c =
    let g = c.args in
    let n = g.tables.now.shape.columns in
    let here = g.self.now.sets in
    let lands = past g.tables.now.rows (row_of (lands_row + c.from.result)) in
    let room : n ≤ length here = search rules in
    let k = length-take-le n here room in
    rw (← c.from.ensures) (
    ap (λ (x : List ℕ). x ++ drop n here) (over-end (λ i. landed (lands i) (get_or (take n here) i 0)) _ c.loop-j.j n (omega (arith, k)) (omega (arith, k)) c.loop-j.invariant)
    ∙ landed-row lands n here room ∙ sym (taken-rows _ c.from.result _ _))
