use mathlib.Core.Path.{◌≡◌}
use Prim.Native.Nat.{ℕ, ◌<◌}
use lib.ListN.{get_or}
use Rattle.blocks.specs.Flat.{past, row_of}
use Rattle.arcs.specs.Words.{held_in, Met}
use Rattle.arcs.proofs.Arcs.fill_meets.Given as goal

abbrev pub invariant-loop-j : goal.invariant-loop-j
invariant-loop-j l = record {
  held : Met l.tables.shape.columns l.self.used l.blocks.sets (held_in l.self.held) l.self.meets;
  renewed : (x : ℕ) → x < l.j → get_or l.self.held x 0 ≡ past l.blocks.sets (row_of l.b) x;
  rest : (l.self.used ≡ l.initial.self.used) × (l.self.able ≡ l.initial.self.able) × (l.self.left ≡ l.initial.self.left);
}
