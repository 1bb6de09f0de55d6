use mathlib.Core.Path.{◌≡◌}
use lib.ListN.{get_or}
use Rattle.task.specs.Loops.{tab, over}
use Rattle.blocks.specs.Flat.{past}
use Rattle.standing.specs.Standing.{landed}
use Rattle.standing.proofs.Standing.take.Given as goal

abbrev pub invariant-loop-j : goal.invariant-loop-j
invariant-loop-j l = l.set-items ≡ over (tab l.j (λ i. landed (past l.tables.rows l.rs i) (get_or l.initial.set-items i 0))) l.initial.set-items
