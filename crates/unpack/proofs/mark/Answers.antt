use native.Mathlib.Omega.{arith}
use Rattle.fields.proofs.FieldLaws.{field_lt}
use Rattle.unpack.proofs.mark.Goals as goal

pub overflow_cast-field : goal.overflow_cast-field
overflow_cast-field c = omega (arith, field_lt c.args.s.now c.args.at 6)
