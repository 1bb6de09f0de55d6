use native.Mathlib.Omega.{arith}
use Rattle.std.proofs.Common.{refl}
use Rattle.running.specs.Counts.{Counted, row_count}
use Rattle.lines.proofs.PrintedLaws.{counted, rows-go, lines-put, line-put}
use Rattle.lines.proofs.put_run.Goals as goal

pub put_first_line-next-requires : goal.put_first_line-next-requires
put_first_line-next-requires c =
    let g = c.args in record { counted = counted g.sheet.now g.room g.cuts.now g.rows.now (c.told-cuts, c.told-rows) c.in-Ok.ensures; room = omega (arith, c.requires) }

pub put_rows-requires : goal.put_rows-requires
put_rows-requires c = let g = c.args in rows-go g.sheet.now g.room g.cuts.now g.rows.now (c.told-cuts, c.told-rows) c.in-Ok.ensures c.row_count.ensures c.requires c.put_first_line-next.ensures

pub returns-in-Ok : goal.returns-in-Ok
returns-in-Ok c =
    let g = c.args in
    lines-put g.sheet.now g.room g.cuts.now g.rows.now (c.told-cuts, c.told-rows) c.in-Ok.ensures c.row_count.ensures
    c.put_first_line-next.ensures c.put_rows.ensures.put c.put_rows.ensures.short

pub put_first_line-requires : goal.put_first_line-requires
unfolding Counted
put_first_line-requires c = record { counted = tt; room = omega (arith, c.requires) }

pub returns-in-Err : goal.returns-in-Err
unfolding row_count
returns-in-Err c =
    let g = c.args in
    line-put g.sheet.now g.room g.cuts.now g.rows.now (c.told-cuts, c.told-rows) c.in-Err.ensures refl c.put_first_line.ensures
