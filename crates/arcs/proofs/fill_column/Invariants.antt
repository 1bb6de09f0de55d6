use mathlib.Core.Path.{◌≡◌}
use Prim.Native.Nat.{ℕ, ◌≤◌, ◌<◌, ◌+◌, ◌*◌}
use lib.ListN.{length, get_or}
use Rattle.task.specs.Sizes.{limits}
use Rattle.arcs.specs.Words.{word_of, meets_in, words}
use Rattle.arcs.proofs.fill_column.Given as goal

abbrev pub invariant-loop-w : goal.invariant-loop-w
invariant-loop-w l = record {
  size : length l.meets ≡ limits.columns * words;
  filled : (x : ℕ) → x < l.w → get_or l.meets (l.j * words + x) 0 ≡ word_of (meets_in l.sets l.set l.j) x;
  before : (i : ℕ) → i < l.j * words → get_or l.meets i 0 ≡ get_or l.initial.meets i 0;
  after : (i : ℕ) → (l.j + 1) * words ≤ i → get_or l.meets i 0 ≡ get_or l.initial.meets i 0;
}
