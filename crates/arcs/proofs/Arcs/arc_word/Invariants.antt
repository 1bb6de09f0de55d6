use mathlib.Core.Path.{◌≡◌}
use Prim.Native.Nat.{◌+◌, ◌*◌}
use lib.Bits.{bit_and}
use lib.ListN.{get_or}
use Rattle.task.specs.Sizes.{limits, lands_row}
use Rattle.arcs.specs.Words.{kept_word}
use Rattle.arcs.proofs.Arcs.arc_word.Given as goal

abbrev pub invariant-loop-j : goal.invariant-loop-j
invariant-loop-j l =
    l.v ≡ kept_word l.self.narrow l.tables.rows l.self.meets (lands_row + l.s) l.w (bit_and (get_or l.self.able (l.w * limits.steps + l.s) 0) (get_or l.self.left l.w 0)) l.j-index
