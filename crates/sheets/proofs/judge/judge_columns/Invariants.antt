use Rattle.std.proofs.Common.{◌≡◌}
use Rattle.fields.specs.Judging.{judged, each}
use Rattle.sheets.specs.ModelSheet.{column_part}
use Rattle.sheets.proofs.judge.judge_columns.Given as goal

abbrev pub invariant-loop-i : goal.invariant-loop-i
invariant-loop-i g l = judged (each l.i (column_part (g.S.ModelSource.fields l.source).column)) ≡ 0
