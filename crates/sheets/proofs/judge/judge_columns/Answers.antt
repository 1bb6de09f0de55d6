use Rattle.std.proofs.Common.{arith, refl, ap, ◌∙◌}
use Rattle.task.specs.declared.Shape.{Shape}
use Rattle.fields.proofs.JudgingLaws.{none, pass, hit}
use Rattle.fields.proofs.RefusalLaws.{number-ne0, number-handed}
use Rattle.sheets.proofs.judge.judge_columns.Goals as goal

pub loop-i-init : goal.loop-i-init
loop-i-init g c = none _

pub returns-in_err-judge_column : goal.returns-in_err-judge_column
returns-in_err-judge_column g c =
    let few = ap (λ (s : Shape). s.columns) c.shape-i-end.ensures in
    number-handed _ _ c.from_residual.ensures.1 ∙ hit c.loop-i.i _ _ (omega (arith, few)) c.loop-i.invariant c.in_err-judge_column.ensures (number-ne0 _)

pub loop-i-preserved : goal.loop-i-preserved
loop-i-preserved g c = pass c.loop-i.i _ c.loop-i.invariant c.in_ok-judge_column.ensures refl
