use mathlib.Core.Path.{◌≡◌}
use Prim.Native.Nat.{◌+◌, ◌*◌}
use lib.ListN.{length}
use Rattle.task.specs.Sizes.{limits}
use Rattle.arcs.specs.Words.{in_word, word}
use Rattle.settling.specs.Turns.{Lowered}
use Rattle.settling.proofs.lower_word.Given as goal

abbrev pub invariant-loop-i : goal.invariant-loop-i
invariant-loop-i l = record {
  size : length l.dist ≡ limits.blocks;
  lowered : Lowered (in_word l.w l.v) l.k (l.w * word + l.i) l.initial.dist l.dist;
}
