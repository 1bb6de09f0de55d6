use native.Mathlib.Omega.{arith}
use Rattle.fields.proofs.FieldLaws.{field_lt, read_at}
use Rattle.unpack.specs.Unpacking.{tenths_on}
use Rattle.unpack.proofs.cost.Goals as goal

pub overflow_cast-result : goal.overflow_cast-result
overflow_cast-result c = omega (arith, field_lt c.args.sheet.now.bytes.now c.model_bits.result 16)

pub returns : goal.returns
unfolding tenths_on
returns c = read_at c.args.sheet.now.bytes.now 16 c.model_bits.ensures.0 c.field.ensures
