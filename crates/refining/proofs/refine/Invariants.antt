use Rattle.refining.proofs.RefineLaws.{Growing}
use Rattle.refining.proofs.refine.Given as goal

abbrev pub invariant-loop-made : goal.invariant-loop-made
invariant-loop-made l = Growing l.tables l.spare l.initial.cuts l.initial.blocks l.cuts l.blocks l.from l.made
