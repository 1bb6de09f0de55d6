use Rattle.settling.proofs.PickLaws.{Scan}
use Rattle.settling.proofs.nearest.Given as goal

abbrev pub invariant-loop-a : goal.invariant-loop-a
invariant-loop-a l = Scan l.count l.dist l.done l.best l.low l.a
