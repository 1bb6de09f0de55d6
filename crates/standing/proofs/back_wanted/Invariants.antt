use mathlib.Core.Path.{◌≡◌}
use Rattle.task.specs.Loops.{tab, over}
use Rattle.blocks.specs.Flat.{past}
use Rattle.standing.specs.Standing.{back_set}
use Rattle.standing.proofs.back_wanted.Given as goal

abbrev pub invariant-loop-j : goal.invariant-loop-j
invariant-loop-j l =
    l.want-items ≡ over (tab l.j (λ i. back_set (past l.tables.rows l.need i) (past l.tables.rows l.land i) (past l.blocks.sets l.rb i))) l.initial.want-items
