use mathlib.Core.Path.{◌≡◌}
use mathlib.Core.Bool.{Bool}
use Prim.Native.Nat.{ℕ, ◌^◌, ◌<◌}
use Rattle.task.specs.Sizes.{limits}
use Rattle.arcs.specs.Words.{bits_below, nth}
use Rattle.arcs.proofs.word_where.Given as goal

abbrev pub invariant-loop-i : goal.invariant-loop-i
invariant-loop-i g l = record {
  low : l.v < 2 ^ l.i;
  bits : (passes : ℕ → Bool) → ((a : ℕ) (r : _) → a < limits.blocks → goal.F-post g l.test a r → r ≡ passes a) → l.v ≡ bits_below (nth passes l.w) l.i;
}
