use Rattle.std.proofs.Common.{◌≡◌}
use Rattle.task.specs.Loops.{tab, over}
use Rattle.values.specs.Values.{value_on}
use Rattle.values.proofs.get_values.Given as goal

abbrev pub invariant-loop-k : goal.invariant-loop-k
invariant-loop-k l = l.value-items ≡ over (tab l.k (value_on l.bytes)) l.initial.value-items
