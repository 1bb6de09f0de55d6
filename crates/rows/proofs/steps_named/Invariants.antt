use Rattle.std.proofs.Common.{◌≡◌, true}
use Rattle.rows.specs.Rows.{steps_named}
use Rattle.rows.proofs.steps_named.Given as goal

abbrev pub invariant-loop-i : goal.invariant-loop-i
invariant-loop-i l = steps_named l.values l.i ≡ true
