use mathlib.Core.Path.{◌≡◌}
use Rattle.task.specs.Loops.{tab, over}
use Rattle.task.proofs.TableLaws.{row_moved}
use Rattle.task.proofs.Model.take.Given as goal

abbrev pub invariant-loop-j : goal.invariant-loop-j
invariant-loop-j l = l.after ≡ over (tab l.j (row_moved l.self.effect l.place l.state)) l.state
