use Rattle.blocks.specs.Flat.{followed_by}
use Prim.Native.Nat.{◌≤◌}
use mathlib.Core.Path.{◌≡◌}
use Rattle.cutting.proofs.follow.Given as goal

abbrev pub invariant-loop-i : goal.invariant-loop-i
invariant-loop-i g l = (l.a ≤ l.i) × (l.a ≡ followed_by (g.S.Followed.has_of l.state) l.cuts l.i)
