use Rattle.blocks.specs.Masks.{lands_in, leads_by}
use Rattle.arcs.specs.Arcs.{cost_in}
use Rattle.settling.proofs.LowerLaws.{Part}
use Rattle.settling.proofs.tries.Given as goal

abbrev pub invariant-loop-s : goal.invariant-loop-s
invariant-loop-s l =
    Part l.blocks.count (λ x a. leads_by l.tables.shape.columns l.tables.rows (lands_in l.tables.rows) l.blocks.sets x a l.b) (cost_in l.tables.costs)
    l.initial.dist l.dist l.b l.s
