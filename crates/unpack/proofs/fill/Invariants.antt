use Prim.Native.Nat.{ℕ, ◌<◌}
use mathlib.Core.Path.{◌≡◌}
use Rattle.task.specs.Loops.{tab, over}
use Rattle.unpack.proofs.fill.Given as goal

abbrev pub invariant-loop-i : goal.invariant-loop-i
invariant-loop-i g l = (f : ℕ → g.row.T.Denot) → ((i : ℕ) (v : g.row.T.Denot) → i < l.count → goal.F-post g l.read i v → v ≡ f i) → l.table ≡ over (tab l.i f) l.fn.table
