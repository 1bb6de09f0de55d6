use Rattle.std.proofs.Common.{◌≡◌}
use Rattle.fields.specs.Judging.{judged, each}
use Rattle.sheets.specs.ModelSheet.{step_part}
use Rattle.sheets.proofs.judge.judge_steps.Given as goal

abbrev pub invariant-loop-j : goal.invariant-loop-j
invariant-loop-j g l =
    let p = g.S.ModelSource.fields l.source in
    judged (each l.j (step_part p.column p.cost p.marks (g.S.ModelSource.shape l.source).columns)) ≡ 0
