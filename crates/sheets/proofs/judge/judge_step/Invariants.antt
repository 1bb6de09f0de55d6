use Rattle.std.proofs.Common.{◌≡◌}
use Rattle.fields.specs.Judging.{judged, each}
use Rattle.sheets.specs.ModelSheet.{marks_part}
use Rattle.sheets.proofs.judge.judge_step.Given as goal

abbrev pub invariant-loop-i : goal.invariant-loop-i
invariant-loop-i g l =
    let p = g.S.ModelSource.fields l.source in
    judged (each l.i (marks_part p.column p.marks l.j)) ≡ 0
