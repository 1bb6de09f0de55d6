use Rattle.std.proofs.Common.{arith}
use Rattle.lines.proofs.LineLaws.{rows_none, rows_more}
use Rattle.lines.proofs.put_rows.Goals as goal

pub loop-i-init : goal.loop-i-init
loop-i-init c = record { put = rows_none c.args.list.now c.args.out.now c.args.at; short = omega arith }

pub loop-i-preserved : goal.loop-i-preserved
loop-i-preserved c = record { put = rows_more c.args.list.now c.loop-i.i c.loop-i.invariant.put c.put_row-next.ensures.put; short = omega arith }
