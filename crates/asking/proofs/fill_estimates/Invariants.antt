use mathlib.Core.Path.{◌≡◌}
use lib.ListN.{length}
use Rattle.task.specs.Loops.{tab, over}
use Rattle.asking.proofs.PartLaws.{Stands}
use Rattle.asking.proofs.StateLaws.{cost_at}
use Rattle.asking.proofs.fill_estimates.Given as goal

abbrev pub invariant-loop-k : goal.invariant-loop-k
invariant-loop-k l = record {
  stands : Stands l.columns l.states l.k-iterator (length l.yielded);
  told : l.estimates ≡ over (tab (length l.yielded) (cost_at l.columns l.count l.cuts l.dist l.states)) l.initial.estimates;
}
