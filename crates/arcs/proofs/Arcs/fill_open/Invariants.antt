use mathlib.Core.Path.{◌≡◌}
use Prim.Native.Nat.{ℕ, ◌<◌}
use lib.ListN.{length, get_or}
use Rattle.arcs.specs.Words.{words, word_of, open_in}
use Rattle.arcs.proofs.Arcs.fill_open.Given as goal

abbrev pub invariant-loop-w : goal.invariant-loop-w
invariant-loop-w l = record {
  opened : (x : ℕ) → x < l.w → get_or l.self.left x 0 ≡ word_of (open_in l.count l.done) x;
  rest : (l.self.used ≡ l.initial.self.used) × (l.self.able ≡ l.initial.self.able) × (l.self.meets ≡ l.initial.self.meets) × (l.self.held ≡ l.initial.self.held);
  size : length l.self.left ≡ words;
}
