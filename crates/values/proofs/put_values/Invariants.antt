use Rattle.std.proofs.Common.{◌≡◌, map}
use Rattle.fields.specs.Judging.{each}
use Rattle.fields.specs.Places.{puts}
use Rattle.values.specs.Values.{bytes_at}
use Rattle.values.proofs.put_values.Given as goal

abbrev pub invariant-loop-i : goal.invariant-loop-i
invariant-loop-i g l = l.bytes ≡ puts 0 (each l.i (bytes_at (map g.V.Value.worth l.fn.values))) l.initial.bytes
