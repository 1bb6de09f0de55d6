use Rattle.std.proofs.Common.{sym, ap, ◌∙◌, List, ◌++◌, length, drop, arith}
use Rattle.task.proofs.LoopLaws.{over_none, over-set, over-end}
use Rattle.values.proofs.ValueLaws.{over-front}
use Rattle.run.specs.declared.Row.{Row}
use Rattle.rows.specs.Rows.{row_in}
use Rattle.rows.proofs.FillLaws.{fitting-fits, part-length, front-all}
use Rattle.rows.proofs.put_rows.Goals as goal

pub slice_bounds-row-items-end : goal.slice_bounds-row-items-end
slice_bounds-row-items-end c = (fitting-fits (length c.args.rows.now) c.args.values.now c.args.n c.rows_fit-m.ensures).room

pub slice_bounds-row-items-end-2 : goal.slice_bounds-row-items-end-2
slice_bounds-row-items-end-2 c = sym (part-length c.args.rows.now c.args.values.now c.args.n c.rows_fit-m.ensures)

pub loop-i-init : goal.loop-i-init
loop-i-init c = sym (over_none (row_in c.args.values.now) _)

pub row_at-requires : goal.row_at-requires
row_at-requires c =
    let f = fitting-fits (length c.args.rows.now) c.args.values.now c.args.n c.rows_fit-m.ensures in
    let k = part-length c.args.rows.now c.args.values.now c.args.n c.rows_fit-m.ensures in
    (omega (arith, f.there, k), f.named c.loop-i.i (omega (arith, k)))

pub loop-i-preserved : goal.loop-i-preserved
loop-i-preserved c = over-set (row_in c.args.values.now) c.loop-i.i _ _ _ c.loop-i.invariant (omega arith) c.row_at.ensures

pub returns : goal.returns
returns c =
    let g = c.args in
    let m = c.rows_fit-m.result in
    let f = row_in g.values.now in
    let k = part-length g.rows.now g.values.now g.n c.rows_fit-m.ensures in
    let items = over-end f _ c.loop-i.i m (omega (arith, k)) (omega (arith, k)) c.loop-i.invariant in
    let e = ap (λ (x : List Row). x ++ drop m g.rows.now) items ∙ over-front f m g.rows.now (fitting-fits (length g.rows.now) g.values.now g.n c.rows_fit-m.ensures).room in
    rw e (front-all g.rows.now g.values.now g.n m c.rows_fit-m.ensures)
