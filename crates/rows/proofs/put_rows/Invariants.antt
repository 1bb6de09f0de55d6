use Rattle.std.proofs.Common.{◌≡◌}
use Rattle.rows.proofs.FillLaws.{front}
use Rattle.rows.proofs.put_rows.Given as goal

abbrev pub invariant-loop-i : goal.invariant-loop-i
invariant-loop-i l = l.row-items ≡ front l.initial.row-items l.values l.i
