use Prim.Native.Nat.{◌*◌}
use Rattle.blocks.specs.Masks.{lands_in}
use Rattle.arcs.specs.Words.{word, told}
use Rattle.settling.specs.Turns.{Lowered}
use Rattle.settling.proofs.lower.Given as goal

abbrev pub invariant-loop-w : goal.invariant-loop-w
invariant-loop-w l =
    Lowered (told l.arcs.few l.arcs.narrow (lands_in l.tables.rows) l.arcs.able l.arcs.meets l.arcs.left l.s) l.k (l.w * word) l.initial.dist l.dist
