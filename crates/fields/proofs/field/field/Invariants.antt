use Rattle.std.proofs.Common.{◌≡◌, ◌-◌}
use Rattle.fields.specs.Bits.{field_at}
use Rattle.fields.proofs.field.field.Given as goal

abbrev pub invariant-loop-k : goal.invariant-loop-k
invariant-loop-k l = l.v ≡ field_at l.s l.at (l.k - l.at)
