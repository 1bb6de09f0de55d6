use mathlib.Core.Path.{◌≡◌}
use Prim.Native.Nat.{ℕ, ◌≤◌}
use lib.ListN.{length, get_or}
use Rattle.task.specs.Sizes.{limits}
use Rattle.arcs.specs.Arcs.{cost_in}
use Rattle.settling.specs.Turns.{arcs_of, goals_of, Ready}
use Rattle.settling.proofs.DijkstraLaws.{Inv, unset}
use Rattle.settling.proofs.settle.Given as goal

abbrev pub invariant-loop-b : goal.invariant-loop-b
invariant-loop-b l = record {
  size : length l.done ≡ limits.blocks;
  ready : Ready l.tables l.blocks l.arcs;
  rest : (a : ℕ) → l.blocks.count ≤ a → get_or l.dist a 0 ≡ get_or l.initial.dist a 0;
  settled : Inv l.blocks.count (arcs_of l.tables l.blocks) (goals_of l.tables l.blocks) (cost_in l.tables.costs) l.dist l.done;
}

abbrev pub decreases-loop-b : goal.decreases-loop-b
decreases-loop-b l = unset l.done
