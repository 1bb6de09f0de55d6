use Rattle.std.specs.Prelude.{None}
use Rattle.trace.specs.Hops.{fits_on, next_in, next_of}
use Rattle.task.specs.Loops.{first}
use mathlib.Core.Option.{none}
use mathlib.Core.Path.{◌≡◌}
use Rattle.trace.proofs.next_hop.Given as goal

-- no block so far fits the step
abbrev pub invariant-loop-b : goal.invariant-loop-b
invariant-loop-b l = (l.found ≡ None) × (first l.b (next_in (fits_on l.tables l.blocks l.dist l.a.0) l.s) ≡ none)

-- no step so far has a hop
abbrev pub invariant-steps : goal.invariant-steps
invariant-steps l = (l.found ≡ None) × (first l.s (next_of l.blocks.count (fits_on l.tables l.blocks l.dist l.a.0)) ≡ none)
