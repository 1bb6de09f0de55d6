use mathlib.Core.Path.{◌≡◌}
use lib.ListN.{length}
use Rattle.task.specs.Task.{position}
use Rattle.task.specs.Loops.{tab, over}
use Rattle.sheets.specs.Holding.{unused}
use Rattle.task.specs.Sizes.{limits}
use Rattle.asking.specs.Question.{place_in}
use Rattle.asking.proofs.read_state.Given as goal

abbrev pub invariant-loop-j : goal.invariant-loop-j
invariant-loop-j l = l.state ≡ over (tab l.j (place_in (length l.bytes) l.bytes 0)) (unused limits.columns (position 0))
