use native.Mathlib.Omega.{arith}
use Rattle.lines.proofs.LineLaws.{number_short, number_put}
use Rattle.lines.proofs.put_number.Goals as goal

pub put_text-requires : goal.put_text-requires
put_text-requires c = omega (arith, c.requires, number_short c.args.n c.decimal-k.result c.decimal-k.new.out c.ranges.n.fits c.decimal-k.ensures.len c.decimal-k.ensures.digits)

pub returns-clause-put : goal.returns-clause-put
returns-clause-put c = number_put c.args.n c.decimal-k.result c.decimal-k.new.out c.ranges.n.fits c.decimal-k.ensures.len c.decimal-k.ensures.digits c.put_text.ensures
