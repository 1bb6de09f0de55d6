-- `write_all` ends, since each turn leaves less to write.
use Rattle.std.specs.Prelude.{◌-◌, ◌≤◌, length}
use Rattle.change_sheet.proofs.write_all.Given as goal

abbrev pub invariant-loop-done : goal.invariant-loop-done
invariant-loop-done g l = l.done ≤ length l.bytes

abbrev pub decreases-loop-done : goal.decreases-loop-done
decreases-loop-done g l = length l.bytes - l.done
