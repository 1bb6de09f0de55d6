use mathlib.Core.Path.{◌≡◌}
use Prim.Native.Nat.{ℕ, ◌<◌, ◌+◌, ◌*◌}
use lib.ListN.{length, get_or}
use Rattle.task.specs.Sizes.{limits}
use Rattle.arcs.specs.Arcs.{fits_in}
use Rattle.arcs.specs.Words.{word_of, words}
use Rattle.arcs.proofs.fill_row.Given as goal

abbrev pub invariant-loop-s : goal.invariant-loop-s
invariant-loop-s l = record {
  size : length l.able ≡ words * limits.steps;
  filled : (x : ℕ) → x < l.s → get_or l.able (l.w * limits.steps + x) 0 ≡ word_of (fits_in l.tables.shape.columns l.tables.rows l.blocks.sets x) l.w;
  before : (i : ℕ) → i < l.w * limits.steps → get_or l.able i 0 ≡ get_or l.initial.able i 0;
}
