use native.Mathlib.Omega.{arith}
use Rattle.running.specs.Counts.{Counted}
use Rattle.lines.proofs.PrintedLaws.{printed-short, printed-run}
use Rattle.lines.proofs.put_printed.Goals as goal

pub put_first_line-requires : goal.put_first_line-requires
unfolding Counted
put_first_line-requires c = record { counted = tt; room = omega (arith, c.requires) }

pub returns-then-input-lt2 : goal.returns-then-input-lt2
returns-then-input-lt2 c = printed-short c.args.input.now c.requires c.if-input-lt2.true c.put_first_line.ensures

pub returns : goal.returns
returns c = printed-run c.args.input.now c.requires c.if-input-lt2.false c.field-room.ensures c.put_run.ensures
