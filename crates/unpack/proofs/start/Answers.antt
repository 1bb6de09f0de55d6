use Prim.Native.Nat.{ℕ, ◌+◌}
use native.Mathlib.Omega.{arith}
use mathlib.Core.Path.{ap}
use Rattle.fields.proofs.FieldLaws.{field_lt, read_at}
use Rattle.task.specs.Task.{position}
use Rattle.unpack.specs.Unpacking.{start_on}
use Rattle.unpack.proofs.start.Goals as goal

pub overflow_cast-result : goal.overflow_cast-result
overflow_cast-result c = omega (arith, field_lt c.args.s.now (c.column_bits.result + 6) 5)

pub returns : goal.returns
unfolding start_on
returns c = ap position (read_at c.args.s.now 5 (ap (λ (x : ℕ). x + 6) c.column_bits.ensures.0) c.field.ensures)
