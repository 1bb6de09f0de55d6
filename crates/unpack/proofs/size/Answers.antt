use native.Mathlib.Omega.{arith}
use Rattle.fields.proofs.FieldLaws.{field_lt, read_at}
use Rattle.unpack.specs.Unpacking.{size_on}
use Rattle.unpack.proofs.size.Goals as goal

pub overflow_cast-result : goal.overflow_cast-result
overflow_cast-result c = omega (arith, field_lt c.args.s.now c.column_bits.result 6)

pub returns : goal.returns
unfolding size_on
returns c = read_at c.args.s.now 6 c.column_bits.ensures.0 c.field.ensures
